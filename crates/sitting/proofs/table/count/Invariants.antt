use Rattle.std.proofs.Common.{◌≡◌, take, count_by}
use Rattle.sitting.proofs.table.count.Given as goal

abbrev pub invariant-loop-flag : goal.invariant-loop-flag
invariant-loop-flag l = l.set ≡ count_by (λ b. b) (take l.flag-index l.flags)
