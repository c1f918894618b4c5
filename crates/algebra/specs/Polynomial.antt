-- Polynomials over a field, as lists of coefficients, the lowest power first; and the interpolation through given points.
-- Points have numbers, or names of another type: x i is the abscissa and y i the ordinate of the point i.
-- Assumes nothing.
use Rattle.std.specs.Prelude.{◌≡◌, List, [], ◌∷◌, ◌≢◌}
use Rattle.std.specs.List.{AllByRecursion}
use Rattle.algebra.specs.Field.{Field}

-- no two of the points have the same abscissa
abbrev pub Apart : {I K : Type 0} → (I → K) → List I → Type 0
Apart x [] = Unit {0}
Apart x (i ∷ is) = AllByRecursion (λ j. x j ≢ x i) is × Apart x is

-- no two elements of the list are equal
abbrev pub Distinct : {A : Type 0} → List A → Type 0
Distinct xs = Apart (λ a. a) xs

module _ {K : Type 0} (F : Field K) where
  open F use {zero as 𝟘, add as ◌⊕◌, mul as ◌⊗◌, neg as ⊖◌, inv}

  infixl 65 ◌⊕◌
  infixl 70 ◌⊗◌
  infix 80 ⊖◌
  -- the value of a polynomial at x; the polynomial with no coefficients is zero
  abbrev pub eval : List K → K → K
  eval [] x = 𝟘
  eval (c ∷ f) x = c ⊕ x ⊗ eval f x

  -- the sum of two polynomials, as long as the longer one
  abbrev pub plus : List K → List K → List K
  plus [] g = g
  plus (c ∷ f) [] = c ∷ f
  plus (c ∷ f) (d ∷ g) = (c ⊕ d) ∷ plus f g

  -- k·f
  abbrev pub scale : K → List K → List K
  scale k [] = []
  scale k (c ∷ f) = k ⊗ c ∷ scale k f

  -- the product of two polynomials
  abbrev pub times : List K → List K → List K
  times [] g = []
  times (c ∷ f) g = plus (scale c g) (𝟘 ∷ times f g)

  -- lin a b f is b + (X - a)·f: its value at a is b, and it has one coefficient more than f
  abbrev pub lin : K → K → List K → List K
  lin a b [] = b ∷ []
  lin a b (c ∷ f) = (b ⊕ ⊖ (a ⊗ c)) ∷ lin a c f

  -- times_root a f is (X - a)·f: it has the root a and one coefficient more than f, but the empty list stays empty
  abbrev pub times_root : K → List K → List K
  times_root a [] = []
  times_root a (c ∷ f) = lin a 𝟘 (c ∷ f)

  -- the quotient of X·f by X - a, with as many coefficients as f: X·f = a·f(a) + (X - a)·(quotient a f);
  -- so quotient a f is also the quotient of c + X·f, the polynomial c ∷ f, and the remainder is its value at a
  abbrev pub quotient : K → List K → List K
  quotient a [] = []
  quotient a (c ∷ f) = eval (c ∷ f) a ∷ quotient a f

  -- A polynomial through the points, in Newton's form: y i + (X - x i)·h, where h passes at each further point j through the slope
  -- (y j - y i)/(x j - x i), and is of the same form; after the last point it is g. Each g gives another polynomial.
  abbrev pub curve : {I : Type 0} → (I → K) → List I → (I → K) → List K → List K
  curve x [] y g = g
  curve x (i ∷ is) y g = lin (x i) (y i) (curve x is (λ j. (y j ⊕ ⊖ (y i)) ⊗ inv (x j ⊕ ⊖ (x i))) g)

  -- the interpolation: the polynomial through the points that has one coefficient for each point
  abbrev pub interpolated : {I : Type 0} → (I → K) → List I → (I → K) → List K
  interpolated x is y = curve x is y []

  -- f passes through each of the points
  abbrev pub Through : {I : Type 0} → (I → K) → (I → K) → List K → List I → Type 0
  Through x y f is = AllByRecursion (λ i. eval f (x i) ≡ y i) is
