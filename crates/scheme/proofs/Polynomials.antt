-- The value of a polynomial, coefficient by coefficient from the highest.
-- Assumes nothing.
use Rattle.std.proofs.Common.{◌≡◌, ℕ, List, [], ◌∷◌, fold, reverse, refl, ap, ◌∙◌}
use Rattle.std.proofs.lemmas.Grind.{reverse_onto}
use Rattle.std.proofs.lemmas.List.Sums.{fold-append}
use Rattle.fields.specs.Laws.{Codes}
use Rattle.scheme.specs.Polynomial.{polynomial_value}

-- Horner's rule
pub value_from_highest : (C : Codes) (f : List ℕ) (x : ℕ) → fold (λ value c. C.sum c (C.product x value)) 0 (reverse f) ≡ polynomial_value C f x
value_from_highest C [] x = refl
value_from_highest C (c ∷ f) x =
    let step : ℕ → ℕ → ℕ = λ value c. C.sum c (C.product x value) in
    ap (fold step 0) (reverse_onto f c []) ∙ fold-append step 0 (reverse f) (c ∷ []) ∙ ap (λ value. step value c) (value_from_highest C f x)
