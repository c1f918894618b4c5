use Rattle.std.proofs.Common.{◌≡◌, ◌+◌, ◌≤◌, eqb, take, count_by}
use Rattle.text.proofs.numbers.NumberList.count.Given as goal

-- one more than the commas so far
abbrev pub invariant-loop-b : goal.invariant-loop-b
invariant-loop-b l = (l.count ≡ 1 + count_by (λ b. eqb b 44) (take l.b-index l.self.text.now)) × (l.count ≤ l.b-index + 1)
