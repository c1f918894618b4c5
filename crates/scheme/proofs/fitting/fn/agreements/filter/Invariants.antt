use Rattle.std.proofs.Common.{◌≡◌}
use Rattle.scheme.specs.Fitting.{passes}
use Rattle.scheme.specs.Held.{polynomial_told}
use Rattle.scheme.proofs.fitting.fn.agreements.filter.Given as goal

-- said here, since the check finds no contract of a closure that holds a polynomial
abbrev pub ensures : goal.ensures
ensures g l r = r ≡ passes g.F-Field.codes (polynomial_told g.F-Field.code l.f.entry.now) (g.F-Field.code l.p.entry.now.now.x, g.F-Field.code l.p.entry.now.now.y)
