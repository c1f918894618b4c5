-- The cards on a table, and what laying one down and taking one up answer. Participants are counted from 1.
-- Assumes nothing.
use Rattle.std.specs.Prelude.{◌≡◌, ℕ, suc, ◌-◌, ◌*◌, Bool, not, ◌&&◌, List, [], ◌∷◌, ◌++◌, length, replicate, is_some, Some, None, Ok, Err, Option, Result, ◌==◌, nat_le, nat_lt, slice_index_or, slice_set}
use Rattle.std.specs.List.{AllByRecursion, list_all}
use Rattle.fields.specs.Laws.{Codes}
use Rattle.scheme.specs.Questions.{first_no}
use Rattle.scheme.specs.declared.types.Figures.{Figures}
use Rattle.scheme.specs.declared.types.Pair.{Pair}

-- what a place of the table holds where no card lies
abbrev pub blank : Pair
blank = record { value = 0; tag = 0 }

-- a card, that is the share of one participant: a pair for each place
abbrev pub Card : Type 0
Card = List Pair

-- for each participant, from number 1 on, the card that lies on the table, or none
abbrev pub Cards : Type 0
Cards = List (Option Card)

-- the card of participant i that lies, for i from 1 on
abbrev pub card_of : Cards → ℕ → Option Card
card_of cards i = slice_index_or cards (i - 1) None

-- the cards that lie, with their numbers, rising; the first place of the list has the number i
abbrev pub lying_from : ℕ → Cards → List (ℕ × Card)
lying_from i [] = []
lying_from i (None ∷ cards) = lying_from (suc i) cards
lying_from i (Some card ∷ cards) = (i, card) ∷ lying_from (suc i) cards

abbrev pub lying : Cards → List (ℕ × Card)
lying cards = lying_from 1 cards

-- over the field C, the value is the code of an element and the tag that of an element of the doubled field
abbrev pub is_coded_pair : Codes → Pair → Bool
is_coded_pair C pair = nat_lt pair.value C.size && nat_lt pair.tag (C.size * C.size)

-- over the field C, for figures f
module _ (C : Codes) (f : Figures) where
  -- no card lies
  abbrev pub no_cards : Cards
  no_cards = replicate f.n None

  abbrev pub is_participant : ℕ → Bool
  is_participant i = nat_le 1 i && nat_le i f.n

  -- the questions about a card that is said to be participant i's
  abbrev pub card_questions : ℕ → Card → List (Bool × ℕ)
  card_questions i card = (is_participant i, 41) ∷ ((length card == f.d), 42) ∷ (list_all (is_coded_pair C) card, 43) ∷ []

  abbrev pub card_refusal : ℕ → Card → Option ℕ
  card_refusal i card = first_no (card_questions i card)

  -- the refusal of present and of withdraw, where `old` is the card of i that lies
  abbrev pub present_refusal : Option Card → ℕ → Card → Option ℕ
  present_refusal old i card = first_no (card_questions i card ++ (not (is_some old), 44) ∷ [])

  abbrev pub withdraw_refusal : Option Card → ℕ → Option ℕ
  withdraw_refusal old i = first_no ((is_participant i, 41) ∷ (is_some old, 45) ∷ [])

  -- unless refused, `new` takes the place of participant i: the answer, which is how many cards then lie, and the cards then
  abbrev pub settled : Option ℕ → Cards → ℕ → Option Card → Result ℕ ℕ × Cards
  settled (Some e) cards i new = (Err e, cards)
  settled None cards i new = let after = slice_set cards (i - 1) new in (Ok (length (lying after)), after)

  -- what present answers, and the cards afterwards
  abbrev pub presented : Cards → ℕ → Card → Result ℕ ℕ × Cards
  presented cards i card = settled (present_refusal (card_of cards i) i card) cards i (Some card)

  -- what withdraw answers, and the cards afterwards
  abbrev pub withdrawn : Cards → ℕ → Result ℕ ℕ × Cards
  withdrawn cards i = settled (withdraw_refusal (card_of cards i) i) cards i None

  -- a table that a sitting can have: a place for each participant, and each card that lies passes the questions about a card
  pub record RightTable (cards : Cards) : Type 0 where
    pub place_each : length cards ≡ f.n
    pub right_cards : AllByRecursion (λ a. card_refusal a.0 a.1 ≡ None) (lying cards)
