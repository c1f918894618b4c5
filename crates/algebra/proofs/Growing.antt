-- The offer of a point in each of its three cases, and how many coefficients the bottom of a collected ratio has at most.
-- Assumes nothing.
use Rattle.std.proofs.Common.{◌≡◌, ℕ, suc, ◌<◌, ◌≤◌, List, [], ◌∷◌, length, arith}
use Rattle.algebra.specs.Field.{Field}
use Rattle.algebra.specs.Polynomial.{eval}
use Rattle.algebra.specs.Decoder.{Ratio, extended, offered, collected}
use Rattle.algebra.proofs.Polynomials.{times_root_within}

module _ {K : Type 0} (X : Field K) (f : List K) (t : ℕ) (p : Ratio X) (x y : K) where
  -- t + 1 points are taken already
  pub offer_full : t < length p.top → offered X f t p x y ≡ p
  offer_full l = grind arith

  -- the abscissa is a root of f
  pub offer_zero : eval X f x ≡ X.zero → offered X f t p x y ≡ p
  offer_zero e = grind arith

  -- the point is taken
  pub offer_taken : length p.top ≤ t → (eval X f x ≡ X.zero → ⊥) → offered X f t p x y ≡ extended X p x y
  offer_taken l k = grind arith

module _ {K : Type 0} (X : Field K) where
  pub offered_short : (f : List K) (t n : ℕ) (p : Ratio X) (x y : K) → length p.bottom ≤ n → length (offered X f t p x y).bottom ≤ suc n
  offered_short f t n p x y l = grind (arith, times_root_within X x p.bottom n l)

  pub collected_short : {I : Type 0} (x y : I → K) (f : List K) (t : ℕ) (is : List I)
      → length (collected X x y f t is).bottom ≤ suc (length is)
  collected_short x y f t [] = omega arith
  collected_short x y f t (i ∷ is) = offered_short f t (suc (length is)) (collected X x y f t is) (x i) (y i) (collected_short x y f t is)
