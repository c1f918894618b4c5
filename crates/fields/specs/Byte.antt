-- The field `byte` of 256 elements, on codes: the arithmetic of bytes of FIPS 197, section 4. The bits of a number are the
-- coefficients of a polynomial over the field of two elements, bit i that of x^i.
-- Assumes nothing.
use Rattle.std.specs.Prelude.{ℕ, zero, suc, ◌+◌, ◌*◌, ◌/◌, ◌%◌, ◌^◌, bit_xor}
use Rattle.fields.specs.Laws.{Codes}
use Rattle.fields.specs.Inverse.{with_inverse}

-- a times the polynomial of the lowest k bits of b: the sum, without carry, of a·x^i over the bits i that are 1
abbrev pub carryless : ℕ → ℕ → ℕ → ℕ
carryless zero a b = 0
carryless (suc k) a b = bit_xor (b % 2 * a) (carryless k (a * 2) (b / 2))

-- the remainder modulo x^8 + x^4 + x^3 + x + 1 of a polynomial c of degree below 8 + k, by long division
abbrev pub remainder : ℕ → ℕ → ℕ
remainder zero c = c
remainder (suc k) c = remainder k (bit_xor c (c / 2 ^ (8 + k) % 2 * (0x11b * 2 ^ k)))

-- FIPS 197, section 4.2: the product of the polynomials, reduced
unfoldable pub product : ℕ → ℕ → ℕ
product a b = remainder 7 (carryless 8 a b)

abbrev pub byte : Codes
byte = with_inverse 256 bit_xor (λ a. a) product
