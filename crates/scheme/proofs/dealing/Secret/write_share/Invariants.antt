use Rattle.std.proofs.Common.{◌≡◌, ℕ, ◌<◌, get_or}
use Rattle.scheme.specs.Dealing.{dealt_pair, value_polynomial, tag_polynomial}
use Rattle.scheme.specs.declared.types.Pair.{Pair}
use Rattle.scheme.proofs.dealing.Secret.write_share.Given as goal

-- the first j places are dealt
abbrev pub invariant-loop-j : goal.invariant-loop-j
invariant-loop-j g l =
    let s = l.self in
    let pair : ℕ → Pair = λ j. dealt_pair g.F.Field.codes g.F.Doublable.u g.F.Doublable.v (value_polynomial s.figures s.key.now s.values.now j) (tag_polynomial s.figures s.tags.now j) l.i in
    (d : Pair) (k : ℕ) → k < l.j → get_or l.share k d ≡ pair k
