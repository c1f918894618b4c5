use Rattle.std.proofs.Common.{ap, ◌∙◌, ap₂}
use Rattle.algebra.specs.Polynomial.{plus, scale}
use Rattle.fields.specs.Elements.{elements}
use Rattle.fields.specs.ElementsLemmas.{add_is, mul_is, neg_is, inv_is}
use Rattle.scheme.proofs.Fitted.{value_is}
use Rattle.scheme.proofs.Points.{over}
use Rattle.scheme.proofs.decoding.extend.Goals as goal

pub returns : goal.returns
returns g c = λ L.
    let X = elements L in
    let r = c.args.r.now in
    let p = c.args.p in
    let difference = add_is L _ _ _ c.add.ensures ∙ ap (X.add p.y) (neg_is L _ _ c.neg.ensures ∙ ap X.neg (value_is L r.top p.x c.value_at-here.result c.value_at-here.ensures)) in
    let inverse = inv_is L _ _ c.inv.ensures ∙ ap X.inv (value_is L r.bottom p.x c.value_at-other.result c.value_at-other.ensures) in
    let factor = mul_is L _ _ _ c.mul-c.ensures ∙ ap₂ X.mul difference inverse in
    ap₂ (over X) (c.add_multiple.ensures L ∙ ap (λ k. plus X r.top (scale X k r.bottom)) factor) (c.multiply_root.ensures L)
