-- What the structs of polynomials hold, as the algebra has it. A polynomial is the list of its coefficients.
-- Assumes nothing.
use Rattle.std.specs.Prelude.{ℕ, ◌<◌, List, map, length, Some, Option, Result}
use Rattle.std.specs.Option.{option_map}
use Rattle.std.specs.Result.{result_map_both, result_err}
use Rattle.algebra.specs.Field.{Field}
use Rattle.algebra.specs.Decoder as algebra
use Rattle.scheme.specs.declared.held.Polynomial.{Polynomial}
use Rattle.scheme.specs.declared.held.Ratio.{Ratio}
use Rattle.scheme.specs.declared.held.State.{State}
use Rattle.scheme.specs.declared.types.Point.{Point}
use Rattle.scheme.specs.declared.types.PointsFault.{PointsFault}

module _ {E : Type 0} where
  abbrev pub abscissae : List (Point E) → List E
  abscissae points = map (λ p. p.x) points

  abbrev pub ordinates : List (Point E) → List E
  ordinates points = map (λ p. p.y) points

  -- the points by the codes of their parts
  abbrev pub point_codes : (E → ℕ) → List (Point E) → List (ℕ × ℕ)
  point_codes code points = map (λ p. (code p.x, code p.y)) points

  -- what an answer tells: a polynomial by the codes of its coefficients
  abbrev pub polynomial_told : (E → ℕ) → Polynomial E → List ℕ
  polynomial_told code p = map code p

  abbrev pub option_told : (E → ℕ) → Option (Polynomial E) → Option (List ℕ)
  option_told code = option_map (polynomial_told code)

  abbrev pub decode_told : (E → ℕ) → Result (Option (Polynomial E)) PointsFault → Result (Option (List ℕ)) PointsFault
  decode_told code = result_map_both (option_told code) (λ e. e)

  abbrev pub interpolate_told : (E → ℕ) → Result (Polynomial E) PointsFault → Result (Option (List ℕ)) PointsFault
  interpolate_told code = result_map_both (λ p. Some (polynomial_told code p)) (λ e. e)

  abbrev pub value_told : (E → ℕ) → Result E PointsFault → Result (Option ℕ) PointsFault
  value_told code = result_map_both (λ a. Some (code a)) (λ e. e)

  abbrev pub ratio : (X : Field E) → Ratio E → algebra.Ratio X
  ratio X r = record { top = r.top; bottom = r.bottom }

  abbrev pub state : (X : Field E) → State E → algebra.State X
  state X s = record { first = ratio X s.first; second = ratio X s.second }

  -- each polynomial has fewer than n coefficients
  abbrev pub Shorter : ℕ → State E → Type 0
  Shorter n s = (length s.first.top < n) × (length s.first.bottom < n) × (length s.second.top < n) × (length s.second.bottom < n)

-- the refusal that an answer tells, if any
abbrev pub refusal_of : Result (Unit {0}) PointsFault → Option PointsFault
refusal_of = result_err
