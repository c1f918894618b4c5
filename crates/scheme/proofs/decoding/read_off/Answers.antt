use Rattle.std.proofs.Common.{◌≡◌, suc, ◌<◌, ◌≤◌, length, sym, ap, ◌∙◌, subst, ap₂, add-one, arith}
use Rattle.algebra.specs.Decoder.{Ratio, offered, collected, place, down}
use Rattle.algebra.proofs.Growing.{collected_short}
use Rattle.algebra.proofs.Candidate.{length_down}
use Rattle.fields.specs.Elements.{elements}
use Rattle.scheme.specs.Held.{ratio, abscissae, ordinates}
use Rattle.scheme.proofs.Memory.{roomy}
use Rattle.scheme.proofs.Points.{at_x, at_y}
use Rattle.scheme.proofs.decoding.read_off.Goals as goal

pub loop-p-preserved : goal.loop-p-preserved
loop-p-preserved g c = λ L.
    let X = elements L in
    let i = c.loop-p.p-index in
    let points = c.args.points.now in
    let f = c.args.e.now in
    let t = c.args.t in
    let h : i < length points = omega arith in
    let x = place X (abscissae points) in
    let y = place X (ordinates points) in
    c.offer.ensures L
    ∙ ap₂ (offered X f t (ratio X c.loop-p.r)) (at_x X points i c.p-item.result c.p-item.is h) (at_y X points i c.p-item.result c.p-item.is h)
    ∙ ap (λ s. offered X f t s (x i) (y i)) (c.loop-p.invariant L) ∙ ap (λ k. collected X x y f t (down k)) (sym (add-one i))

pub offer-requires : goal.offer-requires
offer-requires g c =
    let L = g.met.F.Field.laws in
    let X = elements L in
    let i = c.loop-p.p-index in
    let points = c.args.points.now in
    let h : length c.loop-p.r.bottom ≤ suc (length (down i)) =
    subst (λ (s : Ratio X). length s.bottom ≤ suc (length (down i))) (sym (c.loop-p.invariant L))
    (collected_short X (place X (abscissae points)) (place X (ordinates points)) c.args.e.now c.args.t (down i)) in
    let d = length_down i in
    let room = roomy g.row.F-Elem g.F.Field.codes L.on_codes g.met.F.Field.room in
    (room.polynomial, (room.ratio, omega (arith, h)))

pub returns : goal.returns
returns g c = λ L.
    let e : c.loop-p.p-index ≡ length c.args.points.now = omega arith in
    let collected = rw e at (c.loop-p.invariant L) in
    ap (λ (r : Ratio (elements L)). r.top) collected
