-- Polynomials over a field on codes: the list of the coefficients' codes, lowest power first.
-- Assumes nothing.
use Rattle.std.specs.Prelude.{ℕ, List, [], ◌∷◌}
use Rattle.fields.specs.Laws.{Codes}

-- the polynomial's value at x: c + x·(what the other coefficients give)
abbrev pub polynomial_value : Codes → List ℕ → ℕ → ℕ
polynomial_value C [] x = 0
polynomial_value C (c ∷ f) x = C.sum c (C.product x (polynomial_value C f x))
