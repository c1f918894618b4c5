-- Digits and the numbers that they write.
-- Assumes nothing.
use Rattle.std.proofs.Common.{◌≡◌, ℕ, ◌+◌, ◌-◌, ◌*◌, ◌^◌, ◌<◌, ◌≤◌, true, List, length, get_or, fold, arith, pow-add, rules}
use Rattle.std.specs.Char.{is_ascii_digit}
use Rattle.std.specs.Int.{IsInRange}
use Rattle.std.specs.List.{list_all}
use Rattle.std.proofs.lemmas.Str.Parse.{IsNumeralModel, numerals_by_fold, digit_at}
use Rattle.std.proofs.lemmas.Bool.{and_parts, leb-true}
use Rattle.std.proofs.lemmas.Bool.Decides.{nat_tests}
use Rattle.text.specs.Numbers.{digits_value, is_number}

-- our words for digits and their value are the library's
pub numerals : IsNumeralModel (λ digits. list_all is_ascii_digit digits ≡ true) digits_value
numerals = numerals_by_fold _ (search rules) (λ n digits. fold (λ m c. m * 10 + (c - 48)) n digits) (search rules)

-- the parts of a number
pub record IsNumber (text : List ℕ) : Type 0 where
  pub some : 1 ≤ length text
  pub few : length text ≤ 10
  pub digits : list_all is_ascii_digit text ≡ true
  pub lead : get_or text 0 0 ≡ 48 → length text ≡ 1

pub number_parts : (text : List ℕ) → is_number text ≡ true → IsNumber text
number_parts text e =
    let a = and_parts _ _ e in
    let b = and_parts _ _ a.1 in
    let c = and_parts _ _ b.1 in
    let some = leb-true _ _ a.0 in
    record {
      some = some;
      few = leb-true _ _ b.0;
      digits = c.0;
      lead = λ zero. let rest = c.1 in grind (arith, nat_tests);
    }

-- the byte at each place is a digit
pub digit_in : (text : List ℕ) (i : ℕ) → is_number text ≡ true → i < length text → IsInRange 48 57 (get_or text i 0)
digit_in text i e h = digit_at text i (numerals.to text (number_parts text e).digits) h

-- what settles it, besides that all bytes are digits
pub digits_alone : (text : List ℕ) → 1 ≤ length text → length text ≤ 10 → (get_or text 0 0 ≡ 48 → length text ≤ 1) → list_all is_ascii_digit text ≡ is_number text
digits_alone text some few lead = grind (arith, nat_tests)

-- one digit more
pub ten_more : (n c i : ℕ) → n < 10 ^ i → c ≤ 9 → n * 10 + c < 10 ^ (i + 1)
ten_more n c i h small = omega (arith, pow-add 10 i 1)
