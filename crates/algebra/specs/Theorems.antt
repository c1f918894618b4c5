-- Theorems on polynomials over every finite field: a field of q elements is a field over the numbers below q. A polynomial is the
-- list of its coefficients, lowest power first, and a point is a pair of its abscissa and its ordinate.
-- Assumes nothing.
use Rattle.std.specs.Prelude.{◌≡◌, ℕ, ◌+◌, ◌-◌, ◌*◌, ◌^◌, ◌≤◌, List, ◌∷◌, length, is_some, Some, None, filter, Option}
use Rattle.std.specs.List.{AllByRecursion}
use Rattle.algebra.specs.Field.{Field}
use Rattle.algebra.specs.Doubling.{Below}
use Rattle.algebra.specs.Polynomial.{Apart, Distinct, eval, Through}
use Rattle.algebra.specs.Count.{Exactly, AtEach}
use Rattle.algebra.specs.Decoder.{having}

abbrev pub abscissa : {K : Type 0} → K × K → K
abscissa p = p.0

abbrev pub ordinate : {K : Type 0} → K × K → K
ordinate p = p.1

-- f passes through each of the points
abbrev pub Passes : {K : Type 0} → Field K → List (K × K) → List K → Type 0
Passes F points f = Through F abscissa ordinate f points

-- through how many of the points f passes
abbrev pub agreements : {K : Type 0} → Field K → List (K × K) → List K → ℕ
agreements F points f = length (having (λ p. F.same (eval F f (abscissa p)) (ordinate p)) points)

-- polynomials of s coefficients that agree at s distinct points are equal
abbrev pub AgreementIsEquality : Type 0
AgreementIsEquality =
    (q : ℕ) (F : Field (Below q)) (xs : List (Below q)) → Distinct xs
    → (f g : List (Below q)) → length f ≡ length xs → length g ≡ length xs → AllByRecursion (λ x. eval F f x ≡ eval F g x) xs → f ≡ g

-- through s points with distinct abscissae there is exactly one polynomial of s coefficients
abbrev pub OneInterpolates : Type 0
OneInterpolates =
    (q : ℕ) (F : Field (Below q)) (points : List (Below q × Below q)) → Apart abscissa points
    → Exactly 1 (λ f. (length f ≡ length points) × Passes F points f)

-- of the polynomials of t + 1 coefficients exactly q pass through t points with distinct abscissae
abbrev pub ExactlyQPass : Type 0
ExactlyQPass =
    (q : ℕ) (F : Field (Below q)) (points : List (Below q × Below q)) → Apart abscissa points
    → Exactly q (λ f. (length f ≡ length points + 1) × Passes F points f)

-- what is given at one place: some points, and maybe one further point
pub record Given (K : Type 0) : Type 0 where
  pub points : List (K × K)
  pub further : Option (K × K)

abbrev pub with_further : {K : Type 0} → Option (K × K) → List (K × K) → List (K × K)
with_further None points = points
with_further (Some p) points = p ∷ points

abbrev pub all_points : {K : Type 0} → Given K → List (K × K)
all_points g = with_further g.further g.points

-- t points, and with the further one distinct abscissae
abbrev pub DistinctPoints : {K : Type 0} → ℕ → Given K → Type 0
DistinctPoints t g = (length g.points ≡ t) × Apart abscissa (all_points g)

-- Of the tuples of polynomials of t + 1 coefficients, one for each of d places, that pass through t given points at each place and
-- through a further one at r of the places, there are exactly q^(d - r); with no further point q^d.
abbrev pub ExactlyTheseTuples : Type 0
ExactlyTheseTuples =
    (q : ℕ) (F : Field (Below q)) (t : ℕ) (places : List (Given (Below q))) → AllByRecursion (DistinctPoints t) places
    → Exactly (q ^ (length places - length (filter (λ g. is_some g.further) places)))
    (AtEach (λ g f. (length f ≡ t + 1) × Passes F (all_points g) f) places)

-- polynomials of t + 1 coefficients that each pass through all but t of at least 3·t + 1 points are equal
abbrev pub OneDecodes : Type 0
OneDecodes =
    (q : ℕ) (F : Field (Below q)) (t : ℕ) (points : List (Below q × Below q)) → Apart abscissa points → 3 * t + 1 ≤ length points
    → (f g : List (Below q)) → length f ≡ t + 1 → length g ≡ t + 1
    → length points - t ≤ agreements F points f → length points - t ≤ agreements F points g → f ≡ g
