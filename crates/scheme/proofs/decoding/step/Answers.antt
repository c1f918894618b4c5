use Rattle.std.proofs.Common.{arith}
use Rattle.scheme.proofs.Stepping.{quotient_is, first_zero, second_zero, first_raised, second_raised}
use Rattle.scheme.proofs.decoding.step.Goals as goal

pub returns-then-is_zero : goal.returns-then-is_zero
returns-then-is_zero g c = λ L.
    first_zero L c.args.s.now c.args.p c.args.t _ _ c.discrepancy-da.ensures c.discrepancy-db.ensures (c.if-is_zero.ensures.0 tt) _ (c.raise.ensures L)

pub returns-then-is_zero-2 : goal.returns-then-is_zero-2
returns-then-is_zero-2 g c = λ L.
    second_zero L c.args.s.now c.args.p c.args.t _ _ c.discrepancy-da.ensures c.discrepancy-db.ensures c.if-is_zero.ensures.1 (c.if-is_zero-2.ensures.0 tt)
    _ (c.raise-then-is_zero-2.ensures L)

pub returns-then-len-t : goal.returns-then-len-t
returns-then-len-t g c = λ L.
    first_raised L c.args.s.now c.args.p c.args.t _ _ c.discrepancy-da.ensures c.discrepancy-db.ensures c.if-is_zero.ensures.1 c.if-is_zero-2.ensures.1 (omega arith)
    _ (quotient_is L _ _ _ _ _ c.inv.ensures c.mul.ensures c.neg.ensures) _ _ (c.raise-then-len-t.ensures L) (c.combine.ensures L)

pub returns-else-len-t : goal.returns-else-len-t
returns-else-len-t g c = λ L.
    second_raised L c.args.s.now c.args.p c.args.t _ _ c.discrepancy-da.ensures c.discrepancy-db.ensures c.if-is_zero.ensures.1 c.if-is_zero-2.ensures.1 (omega arith)
    _ (quotient_is L _ _ _ _ _ c.inv-else-len-t.ensures c.mul-else-len-t.ensures c.neg-else-len-t.ensures) _ _ (c.combine-else-len-t.ensures L) (c.raise-else-len-t.ensures L)
