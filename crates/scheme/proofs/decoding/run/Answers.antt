use Rattle.std.proofs.Common.{◌≡◌, suc, ◌<◌, length, sym, ap, ◌∙◌, subst, ap₂, add-one, arith}
use Rattle.algebra.specs.Decoder.{run, step, place, down}
use Rattle.algebra.proofs.Moves.{Short, run_short}
use Rattle.algebra.proofs.Candidate.{length_down}
use Rattle.fields.specs.Elements.{elements}
use Rattle.scheme.specs.Held.{state, abscissae, ordinates}
use Rattle.scheme.proofs.Memory.{roomy}
use Rattle.scheme.proofs.Points.{at_x, at_y}
use Rattle.scheme.proofs.decoding.run.Goals as goal

pub loop-p-preserved : goal.loop-p-preserved
loop-p-preserved g c = λ L.
    let X = elements L in
    let i = c.loop-p.p-index in
    let points = c.args.points.now in
    let t = c.args.t in
    let h : i < length points = omega arith in
    let x = place X (abscissae points) in
    let y = place X (ordinates points) in
    c.step.ensures L
    ∙ ap₂ (λ a b. step X {I = Unit {0}} (λ _. a) (λ _. b) t (state X c.loop-p.s) tt) (at_x X points i c.p-item.result c.p-item.is h) (at_y X points i c.p-item.result c.p-item.is h)
    ∙ ap (λ s. step X x y t s i) (c.loop-p.invariant L) ∙ ap (λ k. run X x y t (down k)) (sym (add-one i))

pub step-requires : goal.step-requires
step-requires g c =
    let L = g.met.F.Field.laws in
    let X = elements L in
    let i = c.loop-p.p-index in
    let s = c.loop-p.s in
    let points = c.args.points.now in
    let h : Short X (suc (length (down i))) (state X s) =
    subst (Short X (suc (length (down i)))) (sym (c.loop-p.invariant L)) (run_short X (place X (abscissae points)) (place X (ordinates points)) c.args.t (down i)) in
    let d = length_down i in
    ((roomy g.row.F-Elem g.F.Field.codes L.on_codes g.met.F.Field.room).state, ((omega (arith, h.0), omega (arith, h.1), omega (arith, h.2), omega (arith, h.3)), omega arith))

pub returns : goal.returns
returns g c = λ L. let e : c.loop-p.p-index ≡ length c.args.points.now = omega arith in rw e at (c.loop-p.invariant L)
