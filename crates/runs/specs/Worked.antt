-- The worked example over p251: five participants, threshold four, one altered card borne, one symbol. Key 7, value coefficients 1, 0
-- and 2, and tag coefficients 5 and 3 deal the cards (10, 788), (25, 1586), (64, 2456), (139, 3183) and (11, 3803).
-- Assumes nothing.
use Rattle.std.specs.Prelude.{ℕ, List, [], ◌∷◌, Some, None}
use Rattle.scheme.specs.Worked.{pair}
use Rattle.runs.specs.Cards.{Card, Cards}

abbrev pub card : ℕ → ℕ → Card
card value tag = pair value tag ∷ []

-- all five cards, or the first four, where the second is given
abbrev pub all_five : ℕ → ℕ → Cards
all_five value tag = Some (card 10 788) ∷ Some (card value tag) ∷ Some (card 64 2456) ∷ Some (card 139 3183) ∷ Some (card 11 3803) ∷ []

abbrev pub first_four : ℕ → ℕ → Cards
first_four value tag = Some (card 10 788) ∷ Some (card value tag) ∷ Some (card 64 2456) ∷ Some (card 139 3183) ∷ None ∷ []

-- the first four, with altered tags on the first two
abbrev pub two_altered : Cards
two_altered = Some (card 10 789) ∷ Some (card 25 1587) ∷ Some (card 64 2456) ∷ Some (card 139 3183) ∷ None ∷ []

-- what a names buffer of six holds before a call
abbrev pub nines : List ℕ
nines = 9 ∷ 9 ∷ 9 ∷ 9 ∷ 9 ∷ 9 ∷ []

-- and all but its first after a call that names at most one card
abbrev pub zeros : List ℕ
zeros = 0 ∷ 0 ∷ 0 ∷ 0 ∷ 0 ∷ []
