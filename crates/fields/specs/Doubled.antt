-- The doubled field, on codes: its elements are a + b·y with y·y = u·y + v, and the code of a + b·y is a + p·b.
-- Assumes nothing.
use Rattle.std.specs.Prelude.{ℕ, ◌+◌, ◌*◌, ◌/◌, ◌%◌}
use Rattle.fields.specs.Laws.{Codes}
use Rattle.fields.specs.Inverse.{with_inverse}

-- the code of a + b·y over a field of p elements
abbrev pub join : ℕ → ℕ → ℕ → ℕ
join p a b = a + p * b

module _ (C : Codes) (u v : ℕ) where
  open C use {size as p, sum as ◌⊕◌, negative as ⊖◌, product as ◌⊗◌}

  infixl 65 ◌⊕◌
  infixl 70 ◌⊗◌
  infix 75 ⊖◌
  -- part by part
  unfoldable pub sum2 : ℕ → ℕ → ℕ
  sum2 x z = join p (x % p ⊕ z % p) (x / p ⊕ z / p)

  unfoldable pub negative2 : ℕ → ℕ
  negative2 x = join p (⊖ (x % p)) (⊖ (x / p))

  -- (a + b·y)·(c + d·y) = a·c + v·b·d + (a·d + b·c + u·b·d)·y
  abbrev pub low_product : ℕ → ℕ → ℕ → ℕ → ℕ
  low_product a b c d = a ⊗ c ⊕ v ⊗ (b ⊗ d)

  abbrev pub high_product : ℕ → ℕ → ℕ → ℕ → ℕ
  high_product a b c d = a ⊗ d ⊕ b ⊗ c ⊕ u ⊗ (b ⊗ d)

  unfoldable pub product2 : ℕ → ℕ → ℕ
  product2 x z = join p (low_product (x % p) (x / p) (z % p) (z / p)) (high_product (x % p) (x / p) (z % p) (z / p))

  abbrev pub doubled : Codes
  doubled = with_inverse (p * p) sum2 negative2 product2
