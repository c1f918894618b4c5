-- The whole numbers modulo 251 are a field that can be doubled.
-- Assumes nothing.
use Rattle.std.specs.Prelude.{◌≡◌, ℕ, ◌+◌, ◌-◌, ◌*◌, ◌%◌, ◌<◌, cond, ◌==◌, ◌≢◌}
use Rattle.std.proofs.Common.{sym, ◌∙◌, ap, mod-lt, mod-eq_of_lt, mul-add, mul_assoc, mul_comm, mul-one, zero-mul, arith, lit≤}
use Rattle.std.proofs.Math.Nat.{mod-add-mod, add-mod-mod}
use Rattle.std.proofs.lemmas.Bool.{cond-false, ne_eqb}
use Rattle.std.proofs.lemmas.Nat.{mul-mod_first, mul-mod_second}
use Rattle.fields.specs.P251.{sum, product, p251}
use Rattle.fields.specs.Laws.{Laws, DoublableLaws}
use Rattle.fields.specs.Inverse.{inverse_under}
use Rattle.fields.specs.Tests.{all_below, equal_below, apart_below}
use Rattle.fields.specs.InverseLaws.{bounded, none}

under : (n : ℕ) → n % 251 < 251
under n = mod-lt n (omega arith)

one_over : (a : ℕ) → a < 251 → product a (inverse_under 251 product a) ≡ cond (a == 0) 0 1
unfolding all_below inverse_under
one_over = equal_below (λ a. product a (inverse_under 251 product a)) (λ a. cond (a == 0) 0 1) 251 tt

no_root : (a : ℕ) → a < 251 → product a a ≢ sum (product 0 a) 250
unfolding all_below
no_root = apart_below (λ a. product a a) (λ a. sum (product 0 a) 250) 251 tt

pub p251_laws : Laws p251
p251_laws = record {
  at_least_33 = lit≤ tt;
  at_most_2^32 = lit≤ tt;
  sum_below = λ a b ha hb. under (a + b);
  negative_below = λ a h. under (251 - a);
  product_below = λ a b ha hb. under (a * b);
  inverse_below = λ a h. bounded product 251 a (omega arith);
  sum_comm = λ a b ha hb. omega arith;
  sum_assoc = λ a b c ha hb hc. omega arith;
  sum_zero = λ a h. omega arith;
  sum_negative = λ a h. omega arith;
  product_comm = λ a b ha hb. ap (λ t. t % 251) (mul_comm a b);
  product_assoc = λ a b c ha hb hc. mul-mod_first (a * b) c 251 ∙ ap (λ t. t % 251) (mul_assoc a b c) ∙ sym (mul-mod_second a (b * c) 251);
  product_one = λ a h. ap (λ t. t % 251) (mul-one a) ∙ mod-eq_of_lt h;
  product_sum = λ a b c ha hb hc.
      mul-mod_second a (b + c) 251 ∙ ap (λ t. t % 251) (mul-add a b c)
      ∙ sym (mod-add-mod (a * b) 251 (a * c % 251) ∙ add-mod-mod (a * b) (a * c) 251);
  product_inverse = λ a h n. one_over a h ∙ cond-false (a == 0) 0 1 (ne_eqb a 0 n);
  inverse_zero = none product 251 0 (λ b h e. let z : 0 * b % 251 ≡ 0 = ap (λ t. t % 251) (zero-mul b) in omega arith);
}

pub p251_doublable : DoublableLaws p251 0 250
p251_doublable = record { on_codes = p251_laws; at_most_65536 = lit≤ tt; u_below = lit≤ tt; v_below = lit≤ tt; no_root = no_root }
