use Rattle.std.proofs.Common.{◌≡◌}
use Rattle.algebra.specs.Decoder.{collected, place, down}
use Rattle.fields.specs.Elements.{Over}
use Rattle.scheme.specs.Held.{ratio, abscissae, ordinates}
use Rattle.scheme.proofs.decoding.read_off.Given as goal

-- the points up to here are offered
abbrev pub invariant-loop-p : goal.invariant-loop-p
invariant-loop-p g l = Over g.F.Field.codes g.F.Field.code (λ X. ratio X l.r ≡ collected X (place X (abscissae l.points)) (place X (ordinates l.points)) l.e l.t (down l.p-index))
