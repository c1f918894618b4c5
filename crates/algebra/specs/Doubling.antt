-- The doubling of a field: pairs a + b·y with y·y = u·y + v.
-- Assumes nothing.
use Rattle.std.specs.Prelude.{◌≡◌, ℕ, ◌<◌, ◌≢◌}
use Rattle.algebra.specs.Field.{Field}

-- the operations of a field, with no law
pub record Operations (K : Type 0) : Type 0 where
  pub zero : K
  pub one : K
  pub add : K → K → K
  pub neg : K → K
  pub mul : K → K → K
  pub inv : K → K

abbrev pub operations : {K : Type 0} → Field K → Operations K
operations F =
    record { zero = F.zero; one = F.one; add = F.add; neg = F.neg; mul = F.mul; inv = F.inv }

-- low + high·y
pub record Twice (K : Type 0) : Type 0 where
  pub low : K
  pub high : K

abbrev pub twice : {K : Type 0} → K → K → Twice K
twice a b = record { low = a; high = b }

module _ {K : Type 0} (O : Operations K) (u v : K) where
  open O use {zero as 𝟘, one as 𝟙, add as ◌⊕◌, neg as ⊖◌, mul as ◌⊗◌, inv}

  infixl 65 ◌⊕◌
  infixl 70 ◌⊗◌
  infix 80 ⊖◌
  -- a + b·y times its conjugate a + u·b - b·y
  abbrev pub norm : Twice K → K
  norm x = x.low ⊗ (x.low ⊕ u ⊗ x.high) ⊕ ⊖ (v ⊗ (x.high ⊗ x.high))

  -- the sum goes part by part, the product is multiplied out, and the inverse is the conjugate over the norm
  abbrev pub doubled : Operations (Twice K)
  doubled = record {
    zero = twice 𝟘 𝟘;
    one = twice 𝟙 𝟘;
    add = λ x z. twice (x.low ⊕ z.low) (x.high ⊕ z.high);
    neg = λ x. twice (⊖ x.low) (⊖ x.high);
    mul = λ x z.
        twice (x.low ⊗ z.low ⊕ v ⊗ (x.high ⊗ z.high))
        (x.low ⊗ z.high ⊕ x.high ⊗ z.low ⊕ u ⊗ (x.high ⊗ z.high));
    inv = λ x. twice ((x.low ⊕ u ⊗ x.high) ⊗ inv (norm x)) (⊖ x.high ⊗ inv (norm x));
  }

-- no element r has r·r = u·r + v
abbrev pub NoRoot : {K : Type 0} → Operations K → K → K → Type 0
NoRoot {K} O u v = (r : K) → O.mul r r ≢ O.add (O.mul u r) v

-- the elements of a field of q elements, by their numbers
abbrev pub Below : ℕ → Type 0
Below q = (n : ℕ) × (n < q)

-- where r·r = u·r + v has no root, the pairs with the operations above are a field
abbrev pub DoublingGivesAField : Type 0
DoublingGivesAField =
    (q : ℕ) (F : Field (Below q)) (u v : Below q) → NoRoot (operations F) u v
    → (D : Field (Twice (Below q))) × (operations D ≡ doubled (operations F) u v)
