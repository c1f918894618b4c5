-- The inverse of a code by what it means, for every product.
-- Assumes nothing.
use Rattle.std.specs.Prelude.{◌≡◌, ℕ, zero, suc, ◌<◌, cond, List, ◌==◌, ◌≢◌, slice_index}
use Rattle.fields.specs.Laws.{Codes}

-- a number b below n with a·b = 1, and 0 where there is none; in a field there is at most one
unfoldable pub inverse_under : ℕ → (ℕ → ℕ → ℕ) → ℕ → ℕ
inverse_under zero product a = 0
inverse_under (suc n) product a = cond (product a n == 1) n (inverse_under n product a)

-- the codes of a field by its size, sum, negative and product
abbrev pub with_inverse : ℕ → (ℕ → ℕ → ℕ) → (ℕ → ℕ) → (ℕ → ℕ → ℕ) → Codes
with_inverse size sum negative product =
    record { size = size; sum = sum; negative = negative; product = product; inverse = inverse_under size product }

-- b is the inverse of a: 0 for 0, and else a code with a·b = 1
pub record InverseOf (C : Codes) (a b : ℕ) : Type 0 where
  pub below : b < C.size
  pub of_zero : a ≡ 0 → b ≡ 0
  pub of_others : (a ≢ 0) → C.product a b ≡ 1

-- the table has at each code its inverse
unfoldable pub InverseTable : Codes → List ℕ → Type 0
InverseTable C table = (a : ℕ) → a < C.size → InverseOf C a (slice_index table a)
