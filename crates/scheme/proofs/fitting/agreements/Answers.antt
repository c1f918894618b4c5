use Rattle.std.proofs.Common.{◌∙◌, rules}
use Rattle.std.proofs.lemmas.Iterator.{YieldsList-from_slice}
use Rattle.std.proofs.lemmas.Iterator.Consumers.{count_from_yields_List, YieldsList-from_filter}
use Rattle.scheme.specs.Fitting.{passes}
use Rattle.scheme.specs.Held.{polynomial_told}
use Rattle.scheme.proofs.PointQuestions.{kept_told}
use Rattle.scheme.proofs.fitting.agreements.Goals as goal

pub returns : goal.returns
returns g c =
    let code = g.F.Field.code in
    let test = passes g.F.Field.codes (polynomial_told code c.args.f.now) in
    let points = c.args.points.now in
    count_from_yields_List c.filter.result _ c.count.ensures.ran
    (YieldsList-from_filter _ (λ p. test (code p.x, code p.y)) (YieldsList-from_slice points (search rules)) c.filter.ensures.closure (λ p b q k. search rules))
    ∙ kept_told test (λ p. (code p.x, code p.y)) points
