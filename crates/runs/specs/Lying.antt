-- Theorems on which cards lie after a run of calls: they go by the accepted calls alone.
-- Assumes nothing.
use Rattle.std.specs.Prelude.{◌≡◌, ℕ, Bool, true, false, cond, ◌&&◌, ◌⊎◌, map, Ok, Err, ◌==◌}
use Rattle.algebra.specs.Polynomial.{Apart}
use Rattle.algebra.specs.Count.{In}
use Rattle.fields.specs.Laws.{Codes}
use Rattle.scheme.specs.declared.types.Figures.{Figures}
use Rattle.runs.specs.Cards.{Card, card_of, lying, is_participant, RightTable}
use Rattle.runs.specs.Runs.{Run, start, ◌then◌, Call, present, withdraw, seal, reopen, opens, Answer, counts, silent, shows, done, table, present_accepted, withdraw_accepted, lies, numbers_lying}

-- an answer by which a present or a withdraw is accepted
abbrev pub accepts : Answer → Bool
accepts (counts (Ok m)) = true
accepts (counts (Err e)) = false
accepts silent = false
accepts (shows opening) = false

module _ (C : Codes) (u v : ℕ) (f : Figures) where
  -- after the run `past` the call is a present or a withdraw that is accepted
  abbrev pub accepted : Run Call → Call → Bool
  accepted past call = accepts (done C u v f call (table C u v f past)).0

  -- the accepted presents and withdraws of a run, in their order
  abbrev pub accepted_calls : Run Call → Run Call
  accepted_calls start = start
  accepted_calls (past then call) = cond (accepted past call) (accepted_calls past then call) (accepted_calls past)

  -- an accepted withdraw of number i
  abbrev pub takes_up : ℕ → Run Call → Call → Bool
  takes_up i past (present h card) = false
  takes_up i past (withdraw h) = h == i && accepted past (withdraw h)
  takes_up i past seal = false
  takes_up i past reopen = false
  takes_up i past (opens key names) = false

  -- the run begins with `past`, and no call after that is an accepted withdraw of number i
  abbrev pub NotTakenUp : ℕ → Run Call → Run Call → Type 0
  NotTakenUp i past start = past ≡ start
  NotTakenUp i past (run then call) = (past ≡ run then call) ⊎ (NotTakenUp i past run × (takes_up i run call ≡ false))

  -- a card of number i was laid down by an accepted present, and no accepted withdraw of i came since
  abbrev pub LaidDown : Run Call → ℕ → Card → Type 0
  LaidDown run i card =
      (past : Run Call) × (accepted past (present i card) ≡ true) × NotTakenUp i (past then present i card) run

  -- the cards that lie after the run: each from its accepted present to the next accepted withdraw of its number
  pub record UntilWithdrawn (run : Run Call) : Type 0 where
    pub laid_down_lies : (i : ℕ) (card : Card) → LaidDown run i card → In (i, card) (lying (table C u v f run))
    pub lies_laid_down : (i : ℕ) (card : Card) → In (i, card) (lying (table C u v f run)) → LaidDown run i card
    -- and `lies` says the same
    pub by_the_calls : (i : ℕ) → is_participant C f i ≡ true → card_of (table C u v f run) i ≡ lies C f run i
    -- a call's own answer accepts it exactly where it passes its questions, told by the calls before it
    pub present_by_the_calls : (i : ℕ) (card : Card) → accepted run (present i card) ≡ present_accepted C f (lies C f run i) i card
    pub withdraw_by_the_calls : (i : ℕ) → accepted run (withdraw i) ≡ withdraw_accepted C f (lies C f run i) i

  -- at most one card of each number
  pub record OneEach (run : Run Call) : Type 0 where
    pub right : RightTable C f (table C u v f run)
    pub apart : Apart (λ a. a.0) (lying (table C u v f run))
    pub numbers : map (λ a. a.0) (lying (table C u v f run)) ≡ numbers_lying C f run
    -- where one was laid down, a second is refused
    pub second_refused : (i : ℕ) (card second : Card) → LaidDown run i card → accepted run (present i second) ≡ false

-- which cards lie depends only on the accepted calls
abbrev pub LyingByAcceptedCalls : Type 0
LyingByAcceptedCalls =
    (C : Codes) (u v : ℕ) (f : Figures) (run other : Run Call) → accepted_calls C u v f run ≡ accepted_calls C u v f other
    → table C u v f run ≡ table C u v f other

-- an accepted present makes exactly that card lie until the next accepted withdraw of its number
abbrev pub LyingUntilWithdrawn : Type 0
LyingUntilWithdrawn = (C : Codes) (u v : ℕ) (f : Figures) (run : Run Call) → UntilWithdrawn C u v f run

-- at most one card of a number lies
abbrev pub OneCardEach : Type 0
OneCardEach = (C : Codes) (u v : ℕ) (f : Figures) (run : Run Call) → OneEach C u v f run
