-- How many things have a property, and how many tuples have a property at each place.
-- Assumes nothing.
use Rattle.std.specs.Prelude.{◌≡◌, ℕ, ◌⊎◌, List, [], ◌∷◌, length}
use Rattle.std.specs.List.{AllByRecursion}
use Rattle.algebra.specs.Polynomial.{Distinct}

-- a stands in the list
abbrev pub In : {A : Type 0} → A → List A → Type 0
In a [] = ⊥
In a (b ∷ l) = (a ≡ b) ⊎ In a l

-- n things have the property P and no more: a list of n distinct things that all have it, in which each thing that has it stands
pub record Exactly {A : Type 0} (n : ℕ) (P : A → Type 0) : Type 0 where
  pub list : List A
  pub apart : Distinct list
  pub count : length list ≡ n
  pub sound : AllByRecursion P list
  pub complete : (a : A) → P a → In a list

-- a tuple has one thing for each place, and the thing at the place i has the property P i
abbrev pub AtEach : {I A : Type 0} → (I → A → Type 0) → List I → List A → Type 0
AtEach P [] [] = Unit {0}
AtEach P [] (a ∷ l) = ⊥
AtEach P (i ∷ is) [] = ⊥
AtEach P (i ∷ is) (a ∷ l) = P i a × AtEach P is l
