use Rattle.std.proofs.Common.{◌≡◌}
use Rattle.algebra.specs.Decoder.{run, place, down}
use Rattle.fields.specs.Elements.{Over}
use Rattle.scheme.specs.Held.{state, abscissae, ordinates}
use Rattle.scheme.proofs.decoding.run.Given as goal

-- the points up to here are taken in
abbrev pub invariant-loop-p : goal.invariant-loop-p
invariant-loop-p g l = Over g.F.Field.codes g.F.Field.code (λ X. state X l.s ≡ run X (place X (abscissae l.points)) (place X (ordinates l.points)) l.t (down l.p-index))
