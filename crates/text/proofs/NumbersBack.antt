-- Numbers and lists of numbers that are written and read, and read and written.
-- Assumes nothing.
use Rattle.std.proofs.Common.{◌≡◌, ℕ, ◌^◌, ◌<◌, ◌≤◌, Bool, true, false, not, ◌||◌, eqb, List, [], ◌∷◌, ◌++◌, map, length, get_or, decimal, refl, ap, ◌∙◌, ap₂, cond, Some, None, ⊎_elim, append-nil, arith}
use Rattle.std.specs.List.{list_all, join_with_byte, All, AllByRecursion}
use Rattle.std.specs.Char.{is_ascii_digit}
use Rattle.std.specs.Option.{option_map}
use Rattle.std.proofs.lemmas.Fmt.{digits_decimal, digits_value-decimal, length-decimal-le, decimal_nonempty, first_decimal, decimal_digit, decimal-digits_value}
use Rattle.std.proofs.lemmas.Str.Parse.{digits_value_short}
use Rattle.std.proofs.lemmas.Bool.{and_parts, and_from, and_left, and_right, or_left, le-leb, le-ltb, ne_eqb, both_ways, cases_lt}
use Rattle.std.proofs.lemmas.Bool.Decides.{nat_tests}
use Rattle.std.proofs.lemmas.List.Splits.{slice_split_none, slice_split_at, join_with_byte-slice_split}
use Rattle.std.proofs.lemmas.List.Sums.{AllPass-from_list_all}
use Rattle.std.proofs.lemmas.List.Folds.{list_all-append}
use Rattle.text.specs.Numbers.{digits_value, is_number, pieces, is_list, number_told, numbers_in, optional_numbers_in, others, listed}
use Rattle.text.proofs.Digits.{numerals, number_parts}

list_all_weaker : {A : Type 0} (p q : A → Bool) → ((a : A) → p a ≡ true → q a ≡ true) → (list : List A) → list_all p list ≡ true → list_all q list ≡ true
list_all_weaker p q f [] e = refl
list_all_weaker p q f (a ∷ list) e = let x = and_parts _ _ e in and_from (q a) (list_all q list) (f a x.0) (list_all_weaker p q f list x.1)

digit_no_comma : (b : ℕ) → is_ascii_digit b ≡ true → eqb b 44 ≡ false
digit_no_comma b e = grind (arith, nat_tests)

-- one number

pub read_back : (n : ℕ) → n < 2 ^ 64 → digits_value (decimal n) ≡ n
read_back n h = digits_value-decimal numerals n h

module _ (n : ℕ) (h : n < 10000000000) where
  pub decimal_digits : list_all is_ascii_digit (decimal n) ≡ true
  decimal_digits = digits_decimal numerals n (omega arith)

  pub value_back : digits_value (decimal n) ≡ n
  value_back = read_back n (omega arith)

  pub decimal_is_number : is_number (decimal n) ≡ true
  decimal_is_number =
      and_from _ _ (le-leb 1 (length (decimal n)) (decimal_nonempty n (omega arith)))
      (and_from _ _ (le-leb (length (decimal n)) 10 (length-decimal-le 10 n (omega arith) (omega arith) (omega arith)))
      (and_from _ _ (digits_decimal numerals n (omega arith))
      (⊎_elim
      (λ zero. let one : length (decimal n) ≡ 1 = ap length (decimal_digit n (omega arith)) in ap not (and_right _ _ (le-ltb 1 (length (decimal n)) (omega arith))))
      (λ more. let lead = first_decimal n (omega arith) (omega arith) in ap not (and_left _ _ (ne_eqb (get_or (decimal n) 0 0) 48 (λ e. omega arith))))
      (cases_lt n 1))))

  no_commas : All (λ b. eqb b 44 ≡ false) (decimal n)
  no_commas k d l = digit_no_comma _ (AllPass-from_list_all is_ascii_digit (decimal n) decimal_digits k d l)

pub decimal_back : (text : List ℕ) → is_number text ≡ true → decimal (digits_value text) ≡ text
decimal_back text e =
    let p = number_parts text e in
    decimal-digits_value numerals text p.digits (omega (arith, p.some)) p.lead (omega (arith, digits_value_short numerals text 10 p.digits p.few))

-- lists, written and read

pieces_numbers : (n : ℕ) (numbers : List ℕ) → AllByRecursion (λ m. m < 10000000000) (n ∷ numbers) → pieces (decimal n ++ others numbers) ≡ map decimal (n ∷ numbers)
pieces_numbers n [] small = ap pieces (append-nil (decimal n)) ∙ slice_split_none (λ b. eqb b 44) (decimal n) (no_commas n small.0)
pieces_numbers n (m ∷ numbers) small =
    slice_split_at (λ b. eqb b 44) (decimal n) 44 (decimal m ++ others numbers) (no_commas n small.0) refl
    ∙ ap (λ l. decimal n ∷ l) (pieces_numbers m numbers small.1)

-- the text of some numbers is a list, of those numbers
module _ (numbers : List ℕ) (some : 1 ≤ length numbers) (small : AllByRecursion (λ n. n < 10000000000) numbers) where
  pieces_listed : (list : List ℕ) → 1 ≤ length list → AllByRecursion (λ n. n < 10000000000) list → pieces (listed list) ≡ map decimal list
  pieces_listed [] h a = absurd (omega arith)
  pieces_listed (n ∷ list) h a = pieces_numbers n list a

  are_numbers : (list : List ℕ) → AllByRecursion (λ n. n < 10000000000) list → list_all is_number (map decimal list) ≡ true
  are_numbers [] a = refl
  are_numbers (n ∷ list) a = and_from _ _ (decimal_is_number n a.0) (are_numbers list a.1)

  values_back : (list : List ℕ) → AllByRecursion (λ n. n < 10000000000) list → map digits_value (map decimal list) ≡ list
  values_back [] a = refl
  values_back (n ∷ list) a = ap₂ (λ m l. m ∷ l) (value_back n a.0) (values_back list a.1)

  pub listed_is_list : is_list (listed numbers) ≡ true
  listed_is_list = ap (list_all is_number) (pieces_listed numbers some small) ∙ are_numbers numbers small

  pub numbers_back : numbers_in (listed numbers) ≡ numbers
  numbers_back = ap (map digits_value) (pieces_listed numbers some small) ∙ values_back numbers small

-- its bytes are digits and commas
pub listed_bytes : (numbers : List ℕ) → AllByRecursion (λ n. n < 10000000000) numbers → list_all (λ b. is_ascii_digit b || eqb b 44) (listed numbers) ≡ true
listed_bytes [] small = refl
listed_bytes (n ∷ numbers) small = list_all-append _ (decimal n) (others numbers) ∙ and_from _ _ (of_number n small.0) (of_others numbers small.1)
  where
    of_number : (m : ℕ) → m < 10000000000 → list_all (λ b. is_ascii_digit b || eqb b 44) (decimal m) ≡ true
    of_number m h = list_all_weaker is_ascii_digit _ (λ b e. or_left (is_ascii_digit b) (eqb b 44) e) (decimal m) (decimal_digits m h)

    of_others : (list : List ℕ) → AllByRecursion (λ m. m < 10000000000) list → list_all (λ b. is_ascii_digit b || eqb b 44) (others list) ≡ true
    of_others [] a = refl
    of_others (m ∷ list) a = list_all-append _ (decimal m) (others list) ∙ and_from _ _ (of_number m a.0) (of_others list a.1)

-- lists, read and written

pub listed_back : (text : List ℕ) → is_list text ≡ true → listed (numbers_in text) ≡ text
listed_back text e = of_pieces (pieces text) e ∙ join_with_byte-slice_split 44 text
  where
    of_others : (p : List ℕ) (ps : List (List ℕ)) → list_all is_number ps ≡ true → p ++ others (map digits_value ps) ≡ join_with_byte 44 (p ∷ ps)
    of_others p [] e = append-nil p
    of_others p (q ∷ ps) e = let x = and_parts _ _ e in ap (λ l. p ++ (44 ∷ l)) ((λ j. decimal_back q x.0 j ++ others (map digits_value ps)) ∙ of_others q ps x.1)

    of_pieces : (ps : List (List ℕ)) → list_all is_number ps ≡ true → listed (map digits_value ps) ≡ join_with_byte 44 ps
    of_pieces [] e = refl
    of_pieces (p ∷ ps) e = let x = and_parts _ _ e in (λ j. decimal_back p x.0 j ++ others (map digits_value ps)) ∙ of_others p ps x.1

-- what is read of a text is its number, in the words of what it stands for
pub number_read : (text : List ℕ) → option_map decimal (number_told text) ≡ cond (is_number text) (Some text) None
number_read text =
    elim (is_number text) as (λ b. is_number text ≡ b → option_map decimal (cond b (Some (digits_value text)) None) ≡ cond b (Some text) None)
    [ true ↦ λ e. ap Some (decimal_back text e) | false ↦ λ e. refl ] refl

-- an accepted list is not empty
pub optional_back : (text : List ℕ) → is_list text ≡ true → optional_numbers_in text ≡ numbers_in text
optional_back [] e = absurd (both_ways false refl e)
optional_back (b ∷ text) e = ap (λ t. cond t [] (numbers_in (b ∷ text))) (ne_eqb (length (b ∷ text)) 0 (λ z. omega arith))
