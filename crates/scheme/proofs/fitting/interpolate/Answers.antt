use Rattle.std.proofs.Common.{◌≡◌, List, map, Some, None, Option, sym, ap, ◌∙◌}
use Rattle.scheme.specs.Fitting.{first, points_refusal, through}
use Rattle.scheme.specs.Questions.{unless}
use Rattle.scheme.specs.Held.{point_codes}
use Rattle.scheme.specs.declared.types.PointsFault.{PointsFault}
use Rattle.scheme.proofs.Fitted.{through_one}
use Rattle.scheme.proofs.PointQuestions.{bounds, settled}
use Rattle.scheme.proofs.fitting.interpolate.Goals as goal

pub returns : goal.returns
returns g c =
    let L = g.met.F.Field.laws in
    let C = g.F.Field.codes in
    let code = g.F.Field.code in
    let points = c.args.points.now in
    let P = point_codes code points in
    let asked : None ≡ points_refusal P 1 = c.in_ok-ask_points.ensures in
    let one = through_one L points (bounds code points 1 asked).0 (settled P 1 (sym asked)).distinct_abscissae c.unit-one.result (c.unit-one.ensures L) in
    ap (λ (f : List g.row.F-Elem.Denot). unless None (Some (map code f))) (c.read_off.ensures L)
    ∙ ap (unless None) (sym (ap first one))
    ∙ ap (λ (r : Option PointsFault). unless r (first (through C P))) asked
