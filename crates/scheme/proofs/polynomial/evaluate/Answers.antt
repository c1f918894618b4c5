use Rattle.std.proofs.Common.{ℕ, fold, ap, ◌∙◌}
use Rattle.std.proofs.lemmas.Iterator.Adapters.{YieldsList-from_rev_slice}
use Rattle.std.proofs.lemmas.Iterator.Consumers.{YieldsList-end}
use Rattle.scheme.proofs.Polynomials.{value_from_highest}
use Rattle.scheme.proofs.polynomial.evaluate.Goals as goal

pub returns : goal.returns
returns g c =
    let C = g.F.Field.codes in
    let x = g.F.Field.code c.args.x in
    let step : ℕ → ℕ → ℕ = λ value c. C.sum c (C.product x value) in
    let all = YieldsList-end (YieldsList-from_rev_slice c.args.coefficients.now cc) c.loop-c.yielded _ c.loop-c.yielded_by _ _ c.in-None.is c.next.ensures.steps in
    c.loop-c.invariant ∙ ap (fold step 0) all.0 ∙ value_from_highest C c.args.coefficients.now x
