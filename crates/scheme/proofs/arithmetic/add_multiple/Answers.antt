use Rattle.std.proofs.Common.{◌≡◌, ◌<◌, [], ◌∷◌, ◌++◌, length, take, get_or, set, sym, ap, ◌∙◌, ap₂, arith, get_or-take}
use Rattle.std.proofs.Math.Seq.{take-set-lt}
use Rattle.std.proofs.lemmas.List.{take_all, length-take-le}
use Rattle.fields.specs.Elements.{elements}
use Rattle.fields.specs.ElementsLemmas.{add_is, mul_is}
use Rattle.algebra.proofs.Coefficients.{plus_nil, added_within, added_past}
use Rattle.scheme.proofs.arithmetic.add_multiple.Goals as goal
use Rattle.scheme.proofs.arithmetic.add_multiple.Goals.{then-i-p, else-i-p}

pub loop-i-init : goal.loop-i-init
loop-i-init g c = λ L. sym (plus_nil (elements L) c.args.p.now)

pub loop-i-preserved : goal.loop-i-preserved
loop-i-preserved g c = λ L.
    let X = elements L in
    let p = c.loop-i.p in
    let i = c.loop-i.i in
    let r = c.args.r.now in
    let coefficients = c.p.inside.coefficients in
    let n = c.p.inside.len in
    let b = c.b-item.result in
    let long : length p ≡ n = ap length (sym c.p.view_is) ∙ length-take-le n coefficients (omega arith) in
    let within : i < length r = omega (arith, ap length c.as_slice-b-items.ensures.value) in
    let at : b ≡ get_or r i b = rw c.as_slice-b-items.ensures.value at c.b-item.is in
    let product = mul_is L _ _ _ c.mul-more.ensures in
    elim c.if-i-p.branch [
      | then-i-p w ↦
          let a = w.index-p-i.result in
          w.p-is ∙ take-set-lt n coefficients i w.add.result w.if-i-p.true
          ∙ ap₂ (λ l v. set l i v) c.p.view_is (add_is L _ _ _ w.add.ensures ∙ ap₂ X.add (sym w.index-p-i.is) product)
          ∙ added_within X c.args.p.now r p i c.args.c b within at (c.loop-i.invariant L) a (omega (arith, w.if-i-p.true))
          (w.index-p-i.is ∙ sym (get_or-take n coefficients i a w.if-i-p.true) ∙ ap (λ l. get_or l i a) c.p.view_is)
      | else-i-p w ↦
          w.p-is ∙ w.push.ensures ∙ ap (λ b. p ++ b ∷ []) product
          ∙ added_past X c.args.p.now r p i c.args.c b within at (c.loop-i.invariant L) (omega (arith, w.if-i-p.false))
    ]

pub returns : goal.returns
returns g c = λ L.
    let whole : take c.loop-i.i c.args.r.now ≡ c.args.r.now = take_all _ _ (omega (arith, ap length c.as_slice-b-items.ensures.value)) in
    rw whole at (c.loop-i.invariant L)
