use Rattle.std.proofs.Common.{◌≡◌, ◌*◌, ◌++◌, drop}
use Rattle.std.specs.List.{range_with_len, flat_map}
use Rattle.scheme.specs.Dealing.{dealt_share, value_polynomial, tag_polynomial}
use Rattle.scheme.proofs.dealing.Secret.write_shares.Given as goal

-- the first i participants' shares are dealt, the rest of the buffer is as it was
abbrev pub invariant-loop-i : goal.invariant-loop-i
invariant-loop-i g l =
    let s = l.self in
    l.shares
    ≡ flat_map (dealt_share g.F.Field.codes g.F.Doublable.u g.F.Doublable.v s.figures (value_polynomial s.figures s.key.now s.values.now) (tag_polynomial s.figures s.tags.now)) (range_with_len 1 l.i)
    ++ drop (l.i * s.figures.d) l.initial.shares
