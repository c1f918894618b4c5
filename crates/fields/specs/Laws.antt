-- What a finite field is, on codes: its elements are numbered by the codes from 0 to its size less one, and its operations
-- are functions on codes. Code 0 is the zero and code 1 the one.
-- Assumes nothing.
use Rattle.std.specs.Prelude.{◌≡◌, ℕ, ◌^◌, ◌<◌, ◌≤◌, ◌≢◌}

-- the size, and the four operations on codes
pub record Codes : Type 0 where
  pub size : ℕ
  pub sum : ℕ → ℕ → ℕ
  pub negative : ℕ → ℕ
  pub product : ℕ → ℕ → ℕ
  pub inverse : ℕ → ℕ

-- the laws of a field, each at codes below the size
pub record Laws (C : Codes) : Type 0 where
  pub at_least_33 : 33 ≤ C.size
  pub at_most_2^32 : C.size ≤ 2 ^ 32
  pub sum_below : (a b : ℕ) → a < C.size → b < C.size → C.sum a b < C.size
  pub negative_below : (a : ℕ) → a < C.size → C.negative a < C.size
  pub product_below : (a b : ℕ) → a < C.size → b < C.size → C.product a b < C.size
  pub inverse_below : (a : ℕ) → a < C.size → C.inverse a < C.size
  pub sum_comm : (a b : ℕ) → a < C.size → b < C.size → C.sum a b ≡ C.sum b a
  pub sum_assoc : (a b c : ℕ) → a < C.size → b < C.size → c < C.size → C.sum (C.sum a b) c ≡ C.sum a (C.sum b c)
  pub sum_zero : (a : ℕ) → a < C.size → C.sum a 0 ≡ a
  pub sum_negative : (a : ℕ) → a < C.size → C.sum a (C.negative a) ≡ 0
  pub product_comm : (a b : ℕ) → a < C.size → b < C.size → C.product a b ≡ C.product b a
  pub product_assoc : (a b c : ℕ) → a < C.size → b < C.size → c < C.size
      → C.product (C.product a b) c ≡ C.product a (C.product b c)
  pub product_one : (a : ℕ) → a < C.size → C.product a 1 ≡ a
  pub product_sum : (a b c : ℕ) → a < C.size → b < C.size → c < C.size
      → C.product a (C.sum b c) ≡ C.sum (C.product a b) (C.product a c)
  pub product_inverse : (a : ℕ) → a < C.size → (a ≢ 0) → C.product a (C.inverse a) ≡ 1
  pub inverse_zero : C.inverse 0 ≡ 0

-- the laws of a field with elements of a type E: those on codes, and that codes and elements are in bijection
pub record FieldLaws (E : Type 0) (C : Codes) (code : E → ℕ) : Type 0 where
  pub on_codes : Laws C
  pub code_below : (x : E) → code x < C.size
  pub code_injective : (x y : E) → code x ≡ code y → x ≡ y
  pub code_onto : (n : ℕ) → n < C.size → (x : E) × (code x ≡ n)

-- the laws of a field that can be doubled by u and v: those on codes, a bound on the size, and that x·x = u·x + v has no root
pub record DoublableLaws (C : Codes) (u v : ℕ) : Type 0 where
  pub on_codes : Laws C
  pub at_most_65536 : C.size ≤ 65536
  pub u_below : u < C.size
  pub v_below : v < C.size
  pub no_root : (r : ℕ) → r < C.size → C.product r r ≢ C.sum (C.product u r) v
