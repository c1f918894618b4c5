-- The bridge between a field on codes, whose laws have premises, and a field over a type of elements, whose laws are total.
-- Assumes nothing.
use Rattle.std.specs.Prelude.{◌≡◌, ℕ, suc, ◌^◌, ◌<◌, ◌≤◌, ◌≢◌, refl}
use Rattle.std.proofs.Math.Path.{sym}
use Rattle.std.proofs.Common.{◌∙◌, ap, ap₂, subst, arith}
use mathlib.Core.HLevel.{Σ_prop_path}
use Rattle.std.proofs.Math.Bridge.{le_prop}
use Rattle.algebra.specs.Doubling.{Below}
use Rattle.algebra.specs.Field.{Field}
use Rattle.algebra.proofs.Rules.{zero_mul}
use Rattle.fields.specs.Elements.{elements, same, code_zero, code_one, code_add, code_neg, code_mul, code_inv}
use Rattle.fields.specs.Laws.{Codes, Laws, FieldLaws}
use Rattle.fields.specs.Inverse.{inverse_under}
use Rattle.fields.specs.InverseLaws.{found, bounded, none, inverse_is}

-- ---- down: what the calls of a field answer, as elements

module _ {E : Type 0} {C : Codes} {code : E → ℕ} (L : FieldLaws E C code) where
  pub zero_is : (r : E) → code r ≡ 0 → r ≡ (elements L).zero
  unfolding elements
  zero_is r e = same L (e ∙ sym (code_zero L))

  pub one_is : (r : E) → code r ≡ 1 → r ≡ (elements L).one
  unfolding elements
  one_is r e = same L (e ∙ sym (code_one L))

  pub add_is : (a b r : E) → code r ≡ C.sum (code a) (code b) → r ≡ (elements L).add a b
  unfolding elements
  add_is a b r e = same L (e ∙ sym (code_add L a b))

  pub neg_is : (a r : E) → code r ≡ C.negative (code a) → r ≡ (elements L).neg a
  unfolding elements
  neg_is a r e = same L (e ∙ sym (code_neg L a))

  pub mul_is : (a b r : E) → code r ≡ C.product (code a) (code b) → r ≡ (elements L).mul a b
  unfolding elements
  mul_is a b r e = same L (e ∙ sym (code_mul L a b))

  pub inv_is : (a r : E) → code r ≡ C.inverse (code a) → r ≡ (elements L).inv a
  unfolding elements
  inv_is a r e = same L (e ∙ sym (code_inv L a))

  -- and their codes
  pub zero_code : code (elements L).zero ≡ 0
  unfolding elements
  zero_code = code_zero L

  pub add_code : (a b : E) → code ((elements L).add a b) ≡ C.sum (code a) (code b)
  unfolding elements
  add_code a b = code_add L a b

  pub neg_code : (a : E) → code ((elements L).neg a) ≡ C.negative (code a)
  unfolding elements
  neg_code a = code_neg L a

  pub mul_code : (a b : E) → code ((elements L).mul a b) ≡ C.product (code a) (code b)
  unfolding elements
  mul_code a b = code_mul L a b

-- the numbers below the size are elements, each its own code
unfoldable pub numbers : {C : Codes} → Laws C → FieldLaws (Below C.size) C (λ x. x.0)
numbers {C} L = record {
  on_codes = L;
  code_below = λ x. x.1;
  code_injective = λ x y e. Σ_prop_path (λ (k : ℕ). le_prop {n = suc k} {m = C.size}) {u = x} {v = y} e;
  code_onto = λ n h. ((n, h), refl);
}

-- ---- up

-- a field over a type D whose elements have codes, each number below the size among them, that go with the operations
pub record Coding {D : Type 0} (F : Field D) (C : Codes) : Type 0 where
  pub code : D → ℕ
  pub below : (x : D) → code x < C.size
  pub onto : (a : ℕ) → a < C.size → (x : D) × (code x ≡ a)
  pub zeros : code F.zero ≡ 0
  pub ones : code F.one ≡ 1
  pub sums : (x y : D) → C.sum (code x) (code y) ≡ code (F.add x y)
  pub negatives : (x : D) → C.negative (code x) ≡ code (F.neg x)
  pub products : (x y : D) → C.product (code x) (code y) ≡ code (F.mul x y)

module _ {D : Type 0} {F : Field D} {C : Codes} (K : Coding F C) (means : C.inverse ≡ inverse_under C.size C.product) where
  open K use {code, below, onto, zeros, ones, sums, negatives, products}

  each : (P : ℕ → Type 0) → ((x : D) → P (code x)) → (a : ℕ) → a < C.size → P a
  each P f a h = let t = onto a h in subst P t.1 (f t.0)

  each2 : (P : ℕ → ℕ → Type 0) → ((x y : D) → P (code x) (code y)) → (a b : ℕ) → a < C.size → b < C.size → P a b
  each2 P f a b ha hb = each (λ a. P a b) (λ x. each (P (code x)) (f x) b hb) a ha

  each3 : (P : ℕ → ℕ → ℕ → Type 0) → ((x y z : D) → P (code x) (code y) (code z))
      → (a b c : ℕ) → a < C.size → b < C.size → c < C.size → P a b c
  each3 P f a b c ha hb hc = each2 (λ a b. P a b c) (λ x y. each (P (code x) (code y)) (f x y) c hc) a b ha hb

  code_not_zero : (x : D) → (code x ≢ 0) → x ≢ F.zero
  code_not_zero x n e = n (ap code e ∙ zeros)

  times_inverse_lem : (x : D) → (code x ≢ 0) → C.product (code x) (code (F.inv x)) ≡ 1
  times_inverse_lem x n = products x (F.inv x) ∙ ap code (F.mul_inv x (code_not_zero x n)) ∙ ones

  -- 0·x = 0
  zero_times : (x : D) → C.product 0 (code x) ≡ 0
  zero_times x = ap (λ t. C.product t (code x)) (sym zeros) ∙ products F.zero x ∙ ap code (zero_mul F x) ∙ zeros

  positive : 33 ≤ C.size → 0 < C.size
  positive h = omega arith

  pub laws_of : 33 ≤ C.size → C.size ≤ 2 ^ 32 → Laws C
  laws_of low high = record {
    at_least_33 = low;
    at_most_2^32 = high;
    sum_below = each2 (λ a b. C.sum a b < C.size) (λ x y. subst (λ (t : ℕ). t < C.size) (sym (sums x y)) (below (F.add x y)));
    negative_below = each (λ a. C.negative a < C.size) (λ x. subst (λ (t : ℕ). t < C.size) (sym (negatives x)) (below (F.neg x)));
    product_below = each2 (λ a b. C.product a b < C.size) (λ x y. subst (λ (t : ℕ). t < C.size) (sym (products x y)) (below (F.mul x y)));
    inverse_below = λ a h. subst (λ (f : ℕ → ℕ). f a < C.size) (sym means) (bounded C.product C.size a (positive low));
    sum_comm = each2 (λ a b. C.sum a b ≡ C.sum b a) (λ x y. sums x y ∙ ap code (F.add_comm x y) ∙ sym (sums y x));
    sum_assoc = each3 (λ a b c. C.sum (C.sum a b) c ≡ C.sum a (C.sum b c))
        (λ x y z. ap (λ t. C.sum t (code z)) (sums x y) ∙ sums (F.add x y) z ∙ ap code (F.add_assoc x y z)
        ∙ sym (ap (C.sum (code x)) (sums y z) ∙ sums x (F.add y z)));
    sum_zero = each (λ a. C.sum a 0 ≡ a) (λ x. ap (C.sum (code x)) (sym zeros) ∙ sums x F.zero ∙ ap code (F.add_zero x));
    sum_negative = each (λ a. C.sum a (C.negative a) ≡ 0)
        (λ x. ap (C.sum (code x)) (negatives x) ∙ sums x (F.neg x) ∙ ap code (F.add_neg x) ∙ zeros);
    product_comm = each2 (λ a b. C.product a b ≡ C.product b a) (λ x y. products x y ∙ ap code (F.mul_comm x y) ∙ sym (products y x));
    product_assoc = each3 (λ a b c. C.product (C.product a b) c ≡ C.product a (C.product b c))
        (λ x y z. ap (λ t. C.product t (code z)) (products x y) ∙ products (F.mul x y) z ∙ ap code (F.mul_assoc x y z)
        ∙ sym (ap (C.product (code x)) (products y z) ∙ products x (F.mul y z)));
    product_one = each (λ a. C.product a 1 ≡ a) (λ x. ap (C.product (code x)) (sym ones) ∙ products x F.one ∙ ap code (F.mul_one x));
    product_sum = each3 (λ a b c. C.product a (C.sum b c) ≡ C.sum (C.product a b) (C.product a c))
        (λ x y z. ap (C.product (code x)) (sums y z) ∙ products x (F.add y z) ∙ ap code (F.mul_add x y z)
        ∙ sym (ap₂ C.sum (products x y) (products x z) ∙ sums (F.mul x y) (F.mul x z)));
    product_inverse = each (λ a. (a ≢ 0) → C.product a (C.inverse a) ≡ 1)
        (λ x n. ap (λ (f : ℕ → ℕ). C.product (code x) (f (code x))) means
        ∙ found C.product C.size (code x) (code (F.inv x)) (below (F.inv x)) (times_inverse_lem x n));
    inverse_zero =
        ap (λ (f : ℕ → ℕ). f 0) means
        ∙ none C.product C.size 0 (λ b h e. let z : C.product 0 b ≡ 0 = each (λ b. C.product 0 b ≡ 0) zero_times b h in omega arith);
  }

  pub inverses : Laws C → (x : D) → code (F.inv x) ≡ C.inverse (code x)
  inverses L x = inverse_is L (code x) (code (F.inv x)) (below x) (record {
    below = below (F.inv x);
    of_zero = λ e. ap (λ t. code (F.inv t)) (only_zero e) ∙ ap code F.inv_zero ∙ zeros;
    of_others = times_inverse_lem x;
  })
    where
      only_zero : code x ≡ 0 → x ≡ F.zero
      only_zero e = by (F.same x F.zero)
        where
          by : Dec (x ≡ F.zero) → x ≡ F.zero
          by (yes p) = p
          by (no n) =
              let z : C.product 0 (code (F.inv x)) ≡ 0 = zero_times (F.inv x) in
              let o : C.product 0 (code (F.inv x)) ≡ 1 = ap (λ t. C.product t (code (F.inv x))) (sym e) ∙ products x (F.inv x) ∙ ap code (F.mul_inv x n) ∙ ones in
              absurd (omega arith)
