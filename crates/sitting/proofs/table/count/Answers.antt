use Rattle.std.proofs.Common.{false, take, count_by, ap, ◌∙◌, arith}
use Rattle.std.proofs.lemmas.List.{length-take-le, take_all}
use Rattle.std.proofs.lemmas.List.Sums.{count_by-le-length, count_by_more_yes, count_by_more_no}
use Rattle.sitting.proofs.table.count.Goals as goal
use Rattle.sitting.proofs.table.count.Goals.{then-flag, else-flag}

pub overflow_add-set : goal.overflow_add-set
overflow_add-set c =
    let i = c.loop-flag.flag-index in
    let flags = c.args.flags.now in
    omega (arith, count_by-le-length (λ b. b) (take i flags), length-take-le i flags (omega arith))

pub loop-flag-preserved : goal.loop-flag-preserved
loop-flag-preserved c =
    let flags = c.args.flags.now in
    let i = c.loop-flag.flag-index in
    let h = c.loop-flag-test.true in
    elim c.if-flag.branch [
      | then-flag w ↦ omega (arith, w.set-is, count_by_more_yes (λ b. b) flags i false h w.if-flag.true)
      | else-flag w ↦ omega (arith, w.set-is, count_by_more_no (λ b. b) flags i false h w.if-flag.false)
    ]

pub returns : goal.returns
returns c = c.loop-flag.invariant ∙ ap (count_by (λ b. b)) (take_all c.loop-flag.flag-index c.args.flags.now c.loop-flag-test.false)
