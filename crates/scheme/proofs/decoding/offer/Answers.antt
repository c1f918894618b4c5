use Rattle.std.proofs.Common.{◌≡◌, sym, ap, ◌∙◌, arith}
use Rattle.algebra.specs.Polynomial.{eval}
use Rattle.algebra.proofs.Growing.{offer_full, offer_zero, offer_taken}
use Rattle.fields.specs.Elements.{elements}
use Rattle.fields.specs.ElementsLemmas.{zero_is, zero_code}
use Rattle.scheme.specs.Held.{ratio}
use Rattle.scheme.proofs.Fitted.{value_is}
use Rattle.scheme.proofs.decoding.offer.Goals as goal
use Rattle.scheme.proofs.decoding.offer.Goals.{else-len-t-via-then-len-t+else-not-is_zero, else-len-t-via-else-len-t}

pub returns-then-not-is_zero : goal.returns-then-not-is_zero
returns-then-not-is_zero g c = λ L.
    let X = elements L in
    let p = c.args.p in
    let value = value_is L c.args.e.now p.x c.value_at.result c.value_at.ensures in
    let other : eval X c.args.e.now p.x ≡ X.zero → ⊥ = λ e. c.if-not-is_zero.ensures.1 (ap g.F.Field.code (value ∙ e) ∙ zero_code L) in
    c.extend.ensures L ∙ sym (offer_taken X c.args.e.now c.args.t (ratio X c.args.r.now) p.x p.y (omega arith) other)

pub returns-else-len-t : goal.returns-else-len-t
returns-else-len-t g c = λ L.
    let X = elements L in
    let p = c.args.p in
    let r = ratio X c.args.r.now in
    elim c.else-len-t.branch [
      | else-len-t-via-then-len-t+else-not-is_zero w ↦
          sym (offer_zero X c.args.e.now c.args.t r p.x p.y (sym (value_is L c.args.e.now p.x w.value_at.result w.value_at.ensures) ∙ zero_is L _ (w.if-not-is_zero.ensures.0 tt)))
      | else-len-t-via-else-len-t w ↦ sym (offer_full X c.args.e.now c.args.t r p.x p.y (omega (arith, w.if-len-t.false)))
    ]
