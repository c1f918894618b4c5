-- Rules of calculation that follow from the laws of a field.
-- Assumes nothing.
use Rattle.std.proofs.Common.{◌≡◌, sym, ◌∙◌}
use Rattle.algebra.specs.Field.{Field}

module _ {K : Type 0} (F : Field K) where
  open F use {zero as 𝟘, one as 𝟙, add as ◌⊕◌, mul as ◌⊗◌, neg as ⊖◌, inv, add_assoc, add_comm, add_zero, add_neg, mul_assoc, mul_comm, mul_one, mul_add, mul_inv}

  infixl 65 ◌⊕◌
  infixl 70 ◌⊗◌
  infix 80 ⊖◌
  pub zero_add : (a : K) → 𝟘 ⊕ a ≡ a
  zero_add a = add_comm 𝟘 a ∙ add_zero a

  pub add_left_comm : (a b c : K) → a ⊕ (b ⊕ c) ≡ b ⊕ (a ⊕ c)
  add_left_comm a b c = cc (add_assoc a b c, add_comm a b, add_assoc b a c)

  pub mul_left_comm : (a b c : K) → a ⊗ (b ⊗ c) ≡ b ⊗ (a ⊗ c)
  mul_left_comm a b c = cc (mul_assoc a b c, mul_comm a b, mul_assoc b a c)

  pub add_mul : (a b c : K) → (a ⊕ b) ⊗ c ≡ (a ⊗ c) ⊕ (b ⊗ c)
  add_mul a b c = cc (mul_comm (a ⊕ b) c, mul_add c a b, mul_comm c a, mul_comm c b)

  pub add_cancel : (a b c : K) → a ⊕ c ≡ b ⊕ c → a ≡ b
  add_cancel a b c h = cc (add_assoc a c (⊖ c), add_assoc b c (⊖ c), add_neg c, add_zero a, add_zero b)

  pub mul_zero : (a : K) → a ⊗ 𝟘 ≡ 𝟘
  mul_zero a = add_cancel (a ⊗ 𝟘) 𝟘 (a ⊗ 𝟘) (cc (mul_add a 𝟘 𝟘, add_zero 𝟘, zero_add (a ⊗ 𝟘)))

  pub one_mul : (a : K) → 𝟙 ⊗ a ≡ a
  one_mul a = mul_comm 𝟙 a ∙ mul_one a

  pub zero_mul : (a : K) → 𝟘 ⊗ a ≡ 𝟘
  zero_mul a = mul_comm 𝟘 a ∙ mul_zero a

  pub neg_add : (a : K) → ⊖ a ⊕ a ≡ 𝟘
  neg_add a = add_comm (⊖ a) a ∙ add_neg a

  -- b is the negative of a if a + b = 0
  pub neg_unique : (a b : K) → a ⊕ b ≡ 𝟘 → b ≡ ⊖ a
  neg_unique a b h = add_cancel b (⊖ a) a (add_comm b a ∙ h ∙ sym (neg_add a))

  pub neg_zero : ⊖ 𝟘 ≡ 𝟘
  neg_zero = sym (neg_unique 𝟘 𝟘 (add_zero 𝟘))

  pub neg_neg : (a : K) → ⊖ (⊖ a) ≡ a
  neg_neg a = sym (neg_unique (⊖ a) a (neg_add a))

  pub neg_sum : (a b : K) → ⊖ (a ⊕ b) ≡ ⊖ a ⊕ ⊖ b
  neg_sum a b =
      sym (neg_unique (a ⊕ b) (⊖ a ⊕ ⊖ b)
      (cc (add_assoc a b (⊖ a ⊕ ⊖ b), add_left_comm b (⊖ a) (⊖ b), add_neg b, add_zero (⊖ a), add_neg a)))

  pub neg_mul : (a b : K) → ⊖ a ⊗ b ≡ ⊖ (a ⊗ b)
  neg_mul a b = neg_unique (a ⊗ b) (⊖ a ⊗ b) (cc (add_mul a (⊖ a) b, add_neg a, zero_mul b))

  pub mul_neg : (a b : K) → a ⊗ ⊖ b ≡ ⊖ (a ⊗ b)
  mul_neg a b = cc (mul_comm a (⊖ b), neg_mul b a, mul_comm b a)

  -- a product with a factor that is not zero is zero only where the other factor is
  pub zero_factor : (a b : K) → a ⊗ b ≡ 𝟘 → (a ≡ 𝟘 → ⊥) → b ≡ 𝟘
  zero_factor a b e n = cc (one_mul b, mul_inv a n, mul_comm a (inv a), mul_assoc (inv a) a b, mul_zero (inv a))
