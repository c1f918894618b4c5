-- The elements of a field with codes as a field over their type: the operation on two elements is the element whose code the
-- operation on codes gives. Contracts of generic code speak of elements through it.
-- Assumes nothing.
use Rattle.std.specs.Prelude.{◌≡◌, ℕ, ◌<◌, ◌≤◌}
use Rattle.std.proofs.Common.{sym, ◌∙◌, ap, ap₂, arith}
use Rattle.std.proofs.Math.Decide.{ℕ_discrete}
use Rattle.algebra.specs.Field.{Field}
use Rattle.fields.specs.Laws.{Codes, Laws, FieldLaws}

pub zero_below : {C : Codes} → Laws C → 0 < C.size
zero_below {C} L = let h : 33 ≤ C.size = L.at_least_33 in omega arith

pub one_below : {C : Codes} → Laws C → 1 < C.size
one_below {C} L = let h : 33 ≤ C.size = L.at_least_33 in omega arith

module _ {E : Type 0} {C : Codes} {code : E → ℕ} (L : FieldLaws E C code) where
  -- the element with a code
  abbrev pub at : (n : ℕ) → n < C.size → E
  at n h = (L.code_onto n h).0

  pub code_at : (n : ℕ) (h : n < C.size) → code (at n h) ≡ n
  code_at n h = (L.code_onto n h).1

  pub same : {a b : E} → code a ≡ code b → a ≡ b
  same {a} {b} e = L.code_injective a b e

  abbrev pub zero : E
  zero = at 0 (zero_below L.on_codes)

  abbrev pub one : E
  one = at 1 (one_below L.on_codes)

  abbrev pub add : E → E → E
  add a b = at (C.sum (code a) (code b)) (L.on_codes.sum_below _ _ (L.code_below a) (L.code_below b))

  abbrev pub neg : E → E
  neg a = at (C.negative (code a)) (L.on_codes.negative_below _ (L.code_below a))

  abbrev pub mul : E → E → E
  mul a b = at (C.product (code a) (code b)) (L.on_codes.product_below _ _ (L.code_below a) (L.code_below b))

  abbrev pub inv : E → E
  inv a = at (C.inverse (code a)) (L.on_codes.inverse_below _ (L.code_below a))

  pub code_zero : code zero ≡ 0
  code_zero = code_at _ _

  pub code_one : code one ≡ 1
  code_one = code_at _ _

  pub code_add : (a b : E) → code (add a b) ≡ C.sum (code a) (code b)
  code_add a b = code_at _ _

  pub code_neg : (a : E) → code (neg a) ≡ C.negative (code a)
  code_neg a = code_at _ _

  pub code_mul : (a b : E) → code (mul a b) ≡ C.product (code a) (code b)
  code_mul a b = code_at _ _

  pub code_inv : (a : E) → code (inv a) ≡ C.inverse (code a)
  code_inv a = code_at _ _

  pub same_element : (a b : E) → Dec (code a ≡ code b) → Dec (a ≡ b)
  same_element a b (yes e) = yes (same e)
  same_element a b (no n) = no (λ q. n (ap code q))

  unfoldable pub elements : Field E
  elements = record {
    zero = zero;
    one = one;
    add = add;
    neg = neg;
    mul = mul;
    inv = inv;
    add_assoc = λ a b c. same
        (code_add (add a b) c ∙ ap (λ t. C.sum t (code c)) (code_add a b)
        ∙ L.on_codes.sum_assoc _ _ _ (L.code_below a) (L.code_below b) (L.code_below c)
        ∙ sym (code_add a (add b c) ∙ ap (C.sum (code a)) (code_add b c)));
    add_comm = λ a b. same (code_add a b ∙ L.on_codes.sum_comm _ _ (L.code_below a) (L.code_below b) ∙ sym (code_add b a));
    add_zero = λ a. same (code_add a zero ∙ ap (C.sum (code a)) code_zero ∙ L.on_codes.sum_zero _ (L.code_below a));
    add_neg = λ a. same
        (code_add a (neg a) ∙ ap (C.sum (code a)) (code_neg a) ∙ L.on_codes.sum_negative _ (L.code_below a) ∙ sym code_zero);
    mul_assoc = λ a b c. same
        (code_mul (mul a b) c ∙ ap (λ t. C.product t (code c)) (code_mul a b)
        ∙ L.on_codes.product_assoc _ _ _ (L.code_below a) (L.code_below b) (L.code_below c)
        ∙ sym (code_mul a (mul b c) ∙ ap (C.product (code a)) (code_mul b c)));
    mul_comm = λ a b. same (code_mul a b ∙ L.on_codes.product_comm _ _ (L.code_below a) (L.code_below b) ∙ sym (code_mul b a));
    mul_one = λ a. same (code_mul a one ∙ ap (C.product (code a)) code_one ∙ L.on_codes.product_one _ (L.code_below a));
    mul_add = λ a b c. same
        (code_mul a (add b c) ∙ ap (C.product (code a)) (code_add b c)
        ∙ L.on_codes.product_sum _ _ _ (L.code_below a) (L.code_below b) (L.code_below c)
        ∙ sym (code_add (mul a b) (mul a c) ∙ ap₂ C.sum (code_mul a b) (code_mul a c)));
    mul_inv = λ a n. same
        (code_mul a (inv a) ∙ ap (C.product (code a)) (code_inv a)
        ∙ L.on_codes.product_inverse _ (L.code_below a) (λ e. n (same (e ∙ sym code_zero))) ∙ sym code_one);
    inv_zero = same (code_inv zero ∙ ap C.inverse code_zero ∙ L.on_codes.inverse_zero ∙ sym code_zero);
    one_not_zero = λ e. let f : ◌≡◌ {A = ℕ} 1 0 = sym code_one ∙ ap code e ∙ code_zero in omega arith;
    same = λ a b. same_element a b (ℕ_discrete (code a) (code b));
  }

-- what holds of the elements as a field
abbrev pub Over : {E : Type 0} (C : Codes) (code : E → ℕ) → (Field E → Type 0) → Type 0
Over {E} C code P = (L : FieldLaws E C code) → P (elements L)
