use Rattle.std.proofs.Common.{not, eqb, sym, ◌∙◌, rules}
use Rattle.std.proofs.lemmas.Iterator.{YieldsList-from_slice}
use Rattle.std.proofs.lemmas.Iterator.Search.{all_from_yields_List}
use Rattle.std.proofs.lemmas.List.Folds.{list_all-map}
use Rattle.scheme.proofs.fitting.is_new.Goals as goal

pub returns : goal.returns
returns g c =
    let code = g.F.Field.code in
    let a = code c.args.x in
    let points = c.args.points.now in
    all_from_yields_List (λ p. not (eqb a (code p.x))) _ _ _ c.all.ensures.ran (YieldsList-from_slice points (search rules)) (λ p b q k. search rules)
    ∙ sym (list_all-map (λ b. not (eqb a b)) (λ p. code p.x) points)
