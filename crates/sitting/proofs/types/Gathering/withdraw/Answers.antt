use Rattle.std.proofs.Common.{◌≡◌, true, false, replicate, None, refl, sym, ◌∙◌, arith, rules}
use Rattle.runs.specs.Cards.{blank, is_participant}
use Rattle.sitting.proofs.Settled.{withdrawn_by, settled_by}
use Rattle.sitting.proofs.types.Gathering.withdraw.Goals as goal

pub returns-then-not-lies-clause-answer : goal.returns-then-not-lies-clause-answer
returns-then-not-lies-clause-answer g c =
    let s = c.args.self.now.sitting in
    withdrawn_by g.F.Field.codes s.figures s.table c.args.i false (sym c.lies.ensures ∙ c.if-not-lies.true) (search rules)

pub returns-clause-answer : goal.returns-clause-answer
returns-clause-answer g c =
    let C = g.F.Field.codes in
    let s = c.args.self.now.sitting in
    let i = c.args.i in
    let counts : true ≡ is_participant C s.figures i = search rules in
    settled_by C s.figures s.table i _ (replicate 64 blank) false None _ c.clear.ensures (refl {a = None}) counts (omega arith) (omega arith) (search rules) (search rules) c.lying_among.ensures
    ∙ withdrawn_by C s.figures s.table i true (sym c.lies.ensures ∙ c.if-not-lies.false) counts
