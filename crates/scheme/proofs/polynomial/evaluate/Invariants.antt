use Rattle.std.proofs.Common.{◌≡◌, fold, map}
use Rattle.scheme.proofs.polynomial.evaluate.Given as goal

-- the coefficients so far are summed up
abbrev pub invariant-loop-c : goal.invariant-loop-c
invariant-loop-c g l =
    let C = g.F.Field.codes in
    g.F.Field.code l.value ≡ fold (λ value c. C.sum c (C.product (g.F.Field.code l.x) value)) 0 (map (λ c. c.now) l.yielded)
