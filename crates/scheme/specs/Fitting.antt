-- Which polynomials pass through given points, on codes. A point is the pair of the codes of its abscissa and its ordinate.
-- Assumes nothing.
use Rattle.std.specs.Prelude.{ℕ, zero, suc, ◌+◌, ◌-◌, ◌*◌, Bool, true, not, ◌&&◌, List, [], ◌∷◌, ◌++◌, map, length, Some, None, filter, Option, Result, ◌==◌, nat_le}
use Rattle.std.specs.List.{range_with_len, list_all}
use Rattle.std.specs.Option.{option_map}
use Rattle.std.specs.Result.{result_map_both}
use Rattle.fields.specs.Laws.{Codes}
use Rattle.scheme.specs.Polynomial.{polynomial_value}
use Rattle.scheme.specs.Questions.{first_no, unless}
use Rattle.scheme.specs.declared.types.PointsFault.{PointsFault}
use Rattle.scheme.specs.declared.types.PointsFault.TheVariants.{Count, Repeated}

-- each of the codes before each of the lists
abbrev pub before_each : List ℕ → List (List ℕ) → List (List ℕ)
before_each [] lists = []
before_each (c ∷ codes) lists = map (λ f. c ∷ f) lists ++ before_each codes lists

-- every list of s codes below q: all polynomials of s coefficients over a field of q elements
abbrev pub polynomials : ℕ → ℕ → List (List ℕ)
polynomials q zero = [] ∷ []
polynomials q (suc s) = before_each (range_with_len 0 q) (polynomials q s)

-- no two of the numbers are equal
abbrev pub distinct : List ℕ → Bool
distinct [] = true
distinct (a ∷ list) = list_all (λ b. not (a == b)) list && distinct list

abbrev pub first : {A : Type 0} → List A → Option A
first [] = None
first (a ∷ list) = Some a

-- the questions: are the points at least `least` and at most 32, and their abscissae distinct?
abbrev pub points_questions : List (ℕ × ℕ) → ℕ → List (Bool × PointsFault)
points_questions points least =
    (nat_le least (length points) && nat_le (length points) 32, Count) ∷ (distinct (map (λ p. p.0) points), Repeated) ∷ []

abbrev pub points_refusal : List (ℕ × ℕ) → ℕ → Option PointsFault
points_refusal points least = first_no (points_questions points least)

module _ (C : Codes) where
  abbrev pub passes : List ℕ → ℕ × ℕ → Bool
  passes f p = polynomial_value C f p.0 == p.1

  -- through how many of the points f passes
  abbrev pub agreements : List (ℕ × ℕ) → List ℕ → ℕ
  agreements points f = length (filter (passes f) points)

  -- f passes through all but at most t of the points
  abbrev pub fits : List (ℕ × ℕ) → ℕ → List ℕ → Bool
  fits points t f = nat_le (length points - t) (agreements points f)

  -- the polynomials of t + 1 coefficients that fit; by `one_decodes` there is at most one where the points are at least 3·t + 1
  abbrev pub fitting : List (ℕ × ℕ) → ℕ → List (List ℕ)
  fitting points t = filter (fits points t) (polynomials C.size (suc t))

  -- the polynomials with a coefficient for each point that pass through all of them; by `one_interpolates` there is exactly one
  abbrev pub through : List (ℕ × ℕ) → List (List ℕ)
  through points = filter (λ f. list_all (passes f) points) (polynomials C.size (length points))

  -- what `decode` answers: the polynomial that fits, or nothing where none does
  abbrev pub decoded : List (ℕ × ℕ) → ℕ → Result (Option (List ℕ)) PointsFault
  decoded points t = unless (points_refusal points (3 * t + 1)) (first (fitting points t))

  -- what `interpolate` answers
  abbrev pub interpolated : List (ℕ × ℕ) → Result (Option (List ℕ)) PointsFault
  interpolated points = unless (points_refusal points 1) (first (through points))

  abbrev pub value_of : ℕ → Result (Option (List ℕ)) PointsFault → Result (Option ℕ) PointsFault
  value_of x = result_map_both (option_map (λ f. polynomial_value C f x)) (λ e. e)

  -- what `interpolate_at` answers
  abbrev pub interpolated_at : List (ℕ × ℕ) → ℕ → Result (Option ℕ) PointsFault
  interpolated_at points x = value_of x (interpolated points)
