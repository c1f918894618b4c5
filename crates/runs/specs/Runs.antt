-- Runs of calls on one sitting: what the calls answer and which cards they leave on the table, and which cards lie by the calls alone.
-- Assumes nothing.
use Rattle.std.specs.Prelude.{◌≡◌, ℕ, ◌+◌, Bool, false, cond, not, ◌&&◌, ◌||◌, ◌⊎◌, List, length, take, is_some, Some, None, Ok, Err, filter, Option, Result, ◌==◌}
use Rattle.std.specs.List.{list_any}
use Rattle.fields.specs.Laws.{Codes}
use Rattle.scheme.specs.Dealing.{participants, places}
use Rattle.scheme.specs.declared.types.Figures.{Figures}
use Rattle.runs.specs.Cards.{Card, Cards, no_cards, present_refusal, withdraw_refusal, presented, withdrawn}
use Rattle.runs.specs.Opening.{Opening, pair_at, opened}

-- ---- runs

-- a run: one thing after another, in the order of time, as in `start then seal then reopen`
pub data Run (A : Type 0) : Type 0 where
  start : Run A
  ◌then◌ : Run A → A → Run A

infixl 40 ◌then◌
-- f of each
abbrev pub each : {A B : Type 0} → (A → B) → Run A → Run B
each f start = start
each f (past then a) = each f past then f a

-- P holds of each
abbrev pub Each : {A : Type 0} → (A → Type 0) → Run A → Type 0
Each P start = Unit {0}
Each P (past then a) = Each P past × P a

-- `past` is how the run begins
abbrev pub Beginning : {A : Type 0} → Run A → Run A → Type 0
Beginning past start = past ≡ start
Beginning past (run then a) = (past ≡ run then a) ⊎ Beginning past run

-- ---- calls and their answers

-- Present lays down a card of a participant, and withdraw takes it up; open comes with what its key buffer and its names buffer hold.
-- By their types, present, withdraw and seal are calls on a gathering sitting, and open and reopen are calls on a sealed one. What is
-- said of runs holds of every run, and so of those in which each call stands where it is allowed.
pub data Call : Type 0 where
  present : ℕ → Card → Call
  withdraw : ℕ → Call
  seal : Call
  reopen : Call
  opens : List ℕ → List ℕ → Call

-- present and withdraw answer how many cards then lie, or the number of the refusal; seal and reopen answer nothing; open answers
-- with its two buffers
pub data Answer : Type 0 where
  counts : Result ℕ ℕ → Answer
  silent : Answer
  shows : Opening → Answer

module _ (C : Codes) (u v : ℕ) (f : Figures) where
  -- what a call answers, and the cards afterwards
  abbrev pub done : Call → Cards → Answer × Cards
  done (present i card) cards = let r = presented C f cards i card in (counts r.0, r.1)
  done (withdraw i) cards = let r = withdrawn C f cards i in (counts r.0, r.1)
  done seal cards = (silent, cards)
  done reopen cards = (silent, cards)
  done (opens key names) cards = (shows (opened C u v f cards key names), cards)

  -- the cards on the table after a run of calls, which begins with no card lying
  abbrev pub table : Run Call → Cards
  table start = no_cards C f
  table (past then call) = (done call (table past)).1

  -- what each call of the run answers
  abbrev pub answers : Run Call → Run Answer
  answers start = start
  answers (past then call) = answers past then (done call (table past)).0

-- the numbers that open writes at the front of its names buffer: as many as it answers
abbrev pub name_count : Result (ℕ × ℕ) (ℕ × ℕ) → ℕ
name_count (Ok a) = a.1
name_count (Err a) = a.1

abbrev pub written : Opening → List ℕ
written o = take (name_count o.answer) o.names

-- ---- by the calls alone, with no look at the table

module _ (C : Codes) (f : Figures) where
  -- a call is accepted where it passes all its questions; `old` is the card of i that lies
  abbrev pub present_accepted : Option Card → ℕ → Card → Bool
  present_accepted old i card = not (is_some (present_refusal C f old i card))

  abbrev pub withdraw_accepted : Option Card → ℕ → Bool
  withdraw_accepted old i = not (is_some (withdraw_refusal C f old i))

  -- the card of participant i that lies after the run: it lies from its accepted present to the next accepted withdraw of its number
  abbrev pub lies : Run Call → ℕ → Option Card
  lies start i = None
  lies (past then present h card) i = cond (h == i && present_accepted (lies past h) h card) (Some card) (lies past i)
  lies (past then withdraw h) i = cond (h == i && withdraw_accepted (lies past h) h) None (lies past i)
  lies (past then seal) i = lies past i
  lies (past then reopen) i = lies past i
  lies (past then opens key names) i = lies past i

  -- the numbers whose cards lie, rising
  abbrev pub numbers_lying : Run Call → List ℕ
  numbers_lying past = filter (λ i. is_some (lies past i)) (participants f)

-- ---- altered cards

-- a card beside the one that was dealt: whether its value, or its tag, at place j differs
abbrev pub value_altered : Card → Card → ℕ → Bool
value_altered dealt card j = not ((pair_at card j).value == (pair_at dealt j).value)

abbrev pub tag_altered : Card → Card → ℕ → Bool
tag_altered dealt card j = not ((pair_at card j).tag == (pair_at dealt j).tag)

module _ (f : Figures) where
  -- a pair differs
  abbrev pub altered : Card → Card → Bool
  altered dealt card = list_any (λ j. value_altered dealt card j || tag_altered dealt card j) (places f)

  -- how many values differ
  abbrev pub altered_values : Card → Card → ℕ
  altered_values dealt card = length (filter (value_altered dealt card) (places f))

  -- the same of a card that may lie
  abbrev pub lies_altered : Card → Option Card → Bool
  lies_altered dealt None = false
  lies_altered dealt (Some card) = altered dealt card

  abbrev pub lies_unaltered : Card → Option Card → Bool
  lies_unaltered dealt None = false
  lies_unaltered dealt (Some card) = not (altered dealt card)

-- where participant i was dealt the card `dealt i`
module _ (C : Codes) (f : Figures) (dealt : ℕ → Card) where
  -- the numbers whose cards lie altered, rising
  abbrev pub lying_altered : Run Call → List ℕ
  lying_altered past = filter (λ i. lies_altered f (dealt i) (lies C f past i)) (participants f)

  -- the numbers whose cards lie unaltered, rising
  abbrev pub lying_unaltered : Run Call → List ℕ
  lying_unaltered past = filter (λ i. lies_unaltered f (dealt i) (lies C f past i)) (participants f)

  -- how many accepted presents of the run carried an altered card
  abbrev pub altered_presents : Run Call → ℕ
  altered_presents start = 0
  altered_presents (past then present i card) =
      cond (present_accepted C f (lies C f past i) i card && altered f (dealt i) card) 1 0 + altered_presents past
  altered_presents (past then withdraw i) = altered_presents past
  altered_presents (past then seal) = altered_presents past
  altered_presents (past then reopen) = altered_presents past
  altered_presents (past then opens key names) = altered_presents past
