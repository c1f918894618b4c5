-- Values and tags, pair by pair.
-- Assumes nothing.
use Rattle.std.proofs.Common.{◌≡◌, ℕ, List, length, arith}
use Rattle.std.specs.List.{zip}
use Rattle.std.proofs.lemmas.List.{length-map}
use Rattle.std.proofs.lemmas.Slice.Zip.{length-zip}
use Rattle.scheme.specs.declared.types.Pair.{Pair}
use Rattle.text.specs.Card.{paired}

-- the pair of a value and a tag
abbrev pub paired_of : ℕ × ℕ → Pair
paired_of both = record { value = both.0; tag = both.1 }

pub length_paired : (values tags : List ℕ) → length values ≡ length tags → length (paired values tags) ≡ length values
length_paired values tags e = omega (arith, length-map (zip values tags) paired_of, length-zip values tags)
