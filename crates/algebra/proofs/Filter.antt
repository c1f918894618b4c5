-- The points that have a property: how many `having` keeps and how many `missing` counts, and what still holds of those it keeps.
-- Assumes nothing.
use Rattle.std.proofs.Common.{◌≡◌, ℕ, zero, suc, ◌+◌, ◌≤◌, List, [], ◌∷◌, length, take, refl, arith}
use mathlib.Core.Logic.Dec
use Rattle.std.specs.List.{AllByRecursion}
use Rattle.std.proofs.ByRecursion.{All-take}
use Rattle.algebra.specs.Polynomial.{Apart}
use Rattle.algebra.specs.Decoder.{keep, having, miss, missing}

-- the first n of some points have distinct abscissae, if all have
pub apart_take : {I K : Type 0} (x : I → K) (n : ℕ) (is : List I) → Apart x is → Apart x (take n is)
apart_take x zero is d = tt
apart_take x (suc n) [] d = tt
apart_take x (suc n) (i ∷ is) d = (All-take _ n is d.0, apart_take x n is d.1)

module _ {I : Type 0} {P : I → Type 0} (dec : (i : I) → Dec (P i)) where
  -- each point is kept or counted
  pub length_having : (is : List I) → length (having dec is) + missing dec is ≡ length is
  length_having [] = refl
  length_having (i ∷ is) = grind (arith, length_having is)

  -- each point that is kept has the property
  pub having_all : (is : List I) → AllByRecursion P (having dec is)
  having_all [] = tt
  having_all (i ∷ is) = grind (arith, having_all is)

  -- what holds of each point holds of those that are kept
  pub all_having : (Q : I → Type 0) (is : List I) → AllByRecursion Q is → AllByRecursion Q (having dec is)
  all_having Q [] h = tt
  all_having Q (i ∷ is) h = grind (arith, all_having Q is h.1)

  pub apart_having : {K : Type 0} (x : I → K) (is : List I) → Apart x is → Apart x (having dec is)
  apart_having x [] d = tt
  apart_having x (i ∷ is) d = grind (arith, apart_having x is d.1, all_having (λ j. x j ≡ x i → ⊥) is d.0)

  -- of the points that are kept no more lack another property than of all
  pub missing_having : {Q : I → Type 0} (dec' : (i : I) → Dec (Q i)) (is : List I) → missing dec' (having dec is) ≤ missing dec' is
  missing_having dec' [] = omega arith
  missing_having dec' (i ∷ is) = grind (arith, missing_having dec' is)

  -- the points that lack the property are as many as `missing` counts
  pub length_not_having : (is : List I) → length (having (λ i. Dec.not (dec i)) is) ≡ missing dec is
  unfolding Dec.not
  length_not_having [] = refl
  length_not_having (i ∷ is) = go (dec i) (length_not_having is)
    where
      go : (e : Dec (P i)) → length (having (λ i. Dec.not (dec i)) is) ≡ missing dec is
          → length (keep (Dec.not e) i (having (λ i. Dec.not (dec i)) is)) ≡ miss e + missing dec is
      go (yes p) k = omega arith
      go (no p) k = omega arith

  -- the first n of some points lack the property no more often than all
  pub missing_take : (n : ℕ) (is : List I) → missing dec (take n is) ≤ missing dec is
  missing_take zero is = omega arith
  missing_take (suc n) [] = omega arith
  missing_take (suc n) (i ∷ is) = omega (arith, missing_take n is)
