use Rattle.std.proofs.Common.{true, false, Some, ap, sym, ◌∙◌, arith, rules}
use Rattle.std.proofs.lemmas.List.{take_all}
use Rattle.sitting.proofs.Settled.{passed, presented_by, settled_by}
use Rattle.sitting.proofs.types.Gathering.present.Goals as goal

pub returns-then-lies-clause-answer : goal.returns-then-lies-clause-answer
returns-then-lies-clause-answer g c =
    let s = c.args.self.now.sitting in
    presented_by g.F.Field.codes s.figures s.table c.args.i true (sym c.lies.ensures ∙ c.if-lies.true) c.args.card.now c.in_ok-ask_card.ensures

pub returns-clause-answer : goal.returns-clause-answer
returns-clause-answer g c =
    let C = g.F.Field.codes in
    let s = c.args.self.now.sitting in
    let i = c.args.i in
    let card = c.args.card.now in
    let asked = c.in_ok-ask_card.ensures in
    let fits = passed C s.figures s.table i card asked in
    let whole = ap Some (take_all s.figures.d card (omega arith)) in
    settled_by C s.figures s.table i _ card true (Some card) _ c.lay.ensures whole fits.0 (omega arith) (omega arith) (search rules) (search rules) c.lying_among.ensures
    ∙ presented_by C s.figures s.table i false (sym c.lies.ensures ∙ c.if-lies.false) card asked
