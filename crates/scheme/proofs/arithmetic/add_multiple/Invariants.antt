use Rattle.std.proofs.Common.{◌≡◌, take}
use Rattle.algebra.specs.Polynomial.{plus, scale}
use Rattle.fields.specs.Elements.{Over}
use Rattle.scheme.proofs.arithmetic.add_multiple.Given as goal

-- the first i coefficients of r are added
abbrev pub invariant-loop-i : goal.invariant-loop-i
invariant-loop-i g l = Over g.F.Field.codes g.F.Field.code (λ X. l.p ≡ plus X l.fn.p (scale X l.c (take l.i l.r)))
