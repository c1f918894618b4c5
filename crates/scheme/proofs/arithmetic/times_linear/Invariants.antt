use Rattle.std.proofs.Common.{◌≡◌, ◌++◌, take, drop}
use Rattle.algebra.specs.Polynomial.{lin}
use Rattle.fields.specs.Elements.{Over}
use Rattle.scheme.proofs.arithmetic.times_linear.Given as goal

-- the coefficients so far, and what the others still become
abbrev pub invariant-loop-c : goal.invariant-loop-c
invariant-loop-c g l = Over g.F.Field.codes g.F.Field.code (λ X. take l.c-index l.f ++ lin X l.a l.before (drop l.c-index l.f) ≡ lin X l.a l.fn.b l.fn.f)
