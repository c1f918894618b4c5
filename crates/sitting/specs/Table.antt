-- The table of a sitting: which cards lie on it, and what laying a card and taking one up leave.
-- Assumes nothing.
use Rattle.std.specs.Prelude.{ℕ, ◌-◌, ◌*◌, Bool, true, false, cond, List, map, length, take, drop, replicate, Some, None, Option, slice_index_or, slice_set}
use Rattle.std.proofs.Math.Seq.{paste}
use Rattle.scheme.specs.Dealing.{participants}
use Rattle.scheme.specs.declared.types.Figures.{Figures}
use Rattle.scheme.specs.declared.types.Pair.{Pair}
use Rattle.runs.specs.Cards.{Card, Cards, blank}
use Rattle.sitting.specs.declared.types.Table.{Table}

-- all places blank and no card lying
abbrev pub blank_table : Table
blank_table = record { places = replicate 2048 blank; lying = replicate 32 false }

-- participant i's first place
abbrev pub first_place : ℕ → ℕ
first_place i = (i - 1) * 64

-- the card of participant i that lies, where cards have d pairs
abbrev pub card_at : ℕ → Table → ℕ → Option Card
card_at d t i = cond (slice_index_or t.lying (i - 1) false) (Some (take d (drop (first_place i) t.places))) None

-- for each participant the card that lies, or none
abbrev pub cards_on : Figures → Table → Cards
cards_on f t = map (card_at f.d t) (participants f)

-- the pairs stand from participant i's first place on, and whether a card of i lies is as told; all else is as it was
abbrev pub written : Table → ℕ → List Pair → Bool → Table
written t i pairs lies =
    record { places = paste t.places (first_place i) pairs (length pairs); lying = slice_set t.lying (i - 1) lies }

-- the table after a card of participant i was laid
abbrev pub laid : Table → ℕ → Card → Table
laid t i card = written t i card true

-- and after it was taken up: all places of participant i are blank
abbrev pub cleared : Table → ℕ → Table
cleared t i = written t i (replicate 64 blank) false
