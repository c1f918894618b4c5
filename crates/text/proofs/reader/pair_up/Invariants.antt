use Rattle.std.proofs.Common.{◌≡◌, length, take}
use Rattle.text.specs.Card.{paired}
use Rattle.text.proofs.reader.pair_up.Given as goal

-- the pairs so far
abbrev pub invariant-loop-j : goal.invariant-loop-j
invariant-loop-j l =
    (length l.pairs ≡ 64) × (take (length l.yielded) l.pairs ≡ take (length l.yielded) (paired l.values l.tags))
