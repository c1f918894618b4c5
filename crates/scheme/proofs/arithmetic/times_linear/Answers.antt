use Rattle.std.proofs.Common.{get_or, ap, ◌∙◌, arith}
use Rattle.fields.specs.Elements.{elements}
use Rattle.fields.specs.ElementsLemmas.{add_is, mul_is, neg_is}
use Rattle.algebra.proofs.Coefficients.{lin_more}
use Rattle.scheme.proofs.arithmetic.times_linear.Goals as goal

pub loop-c-preserved : goal.loop-c-preserved
loop-c-preserved g c = λ L.
    let X = elements L in
    let value = add_is L _ _ _ c.add.ensures ∙ ap (X.add c.loop-c.before) (neg_is L _ _ c.neg.ensures ∙ ap X.neg (mul_is L _ _ _ c.mul.ensures)) in
    lin_more X c.loop-c.f c.loop-c.c-index c.args.a c.loop-c.before _ c.add.result (omega arith) (ap (get_or c.loop-c.f c.loop-c.c-index) c.c-item.is) value
    ∙ c.loop-c.invariant L
