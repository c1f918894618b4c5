use Rattle.std.proofs.Common.{◌≡◌, ℕ, ◌+◌, ◌*◌, Bool, true, false, cond, leb, List, length, take, refl, ap, ◌∙◌, arith}
use Rattle.std.proofs.lemmas.List.{length-take-le}
use Rattle.algebra.specs.Field.{Field}
use Rattle.algebra.specs.Decoder.{Ratio, answer, chosen, collected, down, place, run}
use Rattle.fields.specs.Elements.{elements}
use Rattle.scheme.specs.Held.{abscissae, ordinates, ratio, state}
use Rattle.scheme.specs.declared.held.State.{State}
use Rattle.scheme.specs.declared.types.Point.{Point}
use Rattle.scheme.proofs.Points.{collected_front, run_front}
use Rattle.scheme.proofs.decoding.candidate.Goals as goal

-- what is read off by the bottom that was chosen is the answer
read : {E : Type 0} (X : Field E) (points : List (Point E)) (t n : ℕ) (s : State E) → n ≡ 3 * t + 1
    → state X s ≡ run X (place X (abscissae (take n points))) (place X (ordinates (take n points))) t (down n)
    → (collected X (place X (abscissae (take n points))) (place X (ordinates (take n points))) (cond (leb (length s.first.top) (t + t + 1)) s.first s.second).bottom t (down n)).top
    ≡ answer X (abscissae points) (ordinates points) t
read {E} X points t n s e ran =
    let x = place X (abscissae points) in
    let y = place X (ordinates points) in
    ap (λ (r : Ratio X). r.top) (collected_front X points n t _ n (omega arith))
    ∙ ap (λ f. (collected X x y f t (down n)).top) (either (leb (length s.first.top) (t + t + 1)) ∙ ap (λ s. (chosen X {I = ℕ} x y t t s).bottom) (ran ∙ run_front X points n t n (omega arith)))
    ∙ ap (λ n. (collected X x y (chosen X {I = ℕ} x y t t (run X x y t (down n))).bottom t (down n)).top) e
  where
    either : (b : Bool) → (cond b s.first s.second).bottom ≡ (cond b (ratio X s.first) (ratio X s.second)).bottom
    either true = refl
    either false = refl

pub returns : goal.returns
returns g c = λ L.
    let X = elements L in
    let n = 3 * c.args.t + 1 in
    let points = c.args.points.now in
    let long : length (take n points) ≡ n = length-take-le n points (omega arith) in
    let ran = rw long at (c.run-s.ensures L) in
    let got = rw (long, c.chosen.ensures) at (c.read_off.ensures L) in
    got ∙ read X points c.args.t n c.run-s.result refl ran
