-- Which cards lie after a run of calls.
-- Assumes nothing.
use Rattle.std.proofs.Common.{◌≡◌, ℕ, true, false, not, ◌&&◌, eqb, [], ◌∷◌, ◌++◌, is_some, Some, None, Option, sym, refl, ap, ◌∙◌, subst, ap₂, inl, inr, ⊎_elim, arith}
use Rattle.std.proofs.lemmas.Bool.{eq-eqb, cond-true, cond-false}
use Rattle.algebra.proofs.Counting.{all_from_in}
use Rattle.fields.specs.Laws.{Codes}
use Rattle.scheme.specs.declared.types.Figures.{Figures}
use Rattle.scheme.proofs.Acceptance.{all_yes}
use Rattle.runs.specs.Cards.{Card, Cards, card_of, lying, card_questions, present_refusal, withdraw_refusal, settled, RightTable}
use Rattle.runs.specs.Runs.{Run, start, ◌then◌, Call, present, withdraw, seal, reopen, opens, counts, done, table, present_accepted, withdraw_accepted, lies}
use Rattle.runs.specs.Lying.{accepts, accepted, accepted_calls, takes_up, NotTakenUp, LaidDown, LyingByAcceptedCalls, LyingUntilWithdrawn, OneCardEach}
use Rattle.runs.proofs.Collected.{lying_apart}
use Rattle.runs.proofs.Tables.{after_present, right_from, lies_right, table_length, table_lies, table_present, table_withdraw, lying_numbers, lying_lies, lies_lying}

module _ (C : Codes) (u v : ℕ) (f : Figures) where
  -- ---- refused calls change nothing

  settled_same : (r : Option ℕ) (cards : Cards) (i : ℕ) (new : Option Card) → accepts (counts (settled C f r cards i new).0) ≡ false
      → (settled C f r cards i new).1 ≡ cards
  settled_same r cards i new e = grind arith

  unchanged : (call : Call) (cards : Cards) → accepts (done C u v f call cards).0 ≡ false → (done C u v f call cards).1 ≡ cards
  unchanged (present i card) cards e = settled_same (present_refusal C f (card_of cards i) i card) cards i (Some card) e
  unchanged (withdraw i) cards e = settled_same (withdraw_refusal C f (card_of cards i) i) cards i None e
  unchanged seal cards e = refl
  unchanged reopen cards e = refl
  unchanged (opens key names) cards e = refl

  -- the accepted calls alone give the same table
  accepted_alone : (run : Run Call) → table C u v f (accepted_calls C u v f run) ≡ table C u v f run
  accepted_alone start = refl
  accepted_alone (past then call) = grind (arith, accepted_alone past, unchanged call (table C u v f past))

  -- ---- accepted by the answer, and accepted by the calls alone

  settled_accepts : (r : Option ℕ) (cards : Cards) (i : ℕ) (new : Option Card) → accepts (counts (settled C f r cards i new).0) ≡ not (is_some r)
  settled_accepts r cards i new = grind arith

  present_same : (past : Run Call) (i : ℕ) (card : Card) → accepted C u v f past (present i card) ≡ present_accepted C f (lies C f past i) i card
  present_same past i card =
      settled_accepts (present_refusal C f (card_of (table C u v f past) i) i card) (table C u v f past) i (Some card)
      ∙ ap (λ r. not (is_some r)) (table_present C f u v past i card)

  withdraw_same : (past : Run Call) (i : ℕ) → accepted C u v f past (withdraw i) ≡ withdraw_accepted C f (lies C f past i) i
  withdraw_same past i =
      settled_accepts (withdraw_refusal C f (card_of (table C u v f past) i) i) (table C u v f past) i None
      ∙ ap (λ r. not (is_some r)) (table_withdraw C f u v past i)

  -- where a card of i lies, a present of i is refused
  second : (old card : Card) (i : ℕ) → present_accepted C f (Some old) i card ≡ false
  second old card i = grind (arith, all_yes (card_questions C f i card ++ (false, 44) ∷ []))

  -- ---- a card lies from its accepted present to the next accepted withdraw

  laid_down : (i : ℕ) (card : Card) (past run : Run Call) → accepted C u v f past (present i card) ≡ true
      → NotTakenUp C u v f i (past then present i card) run → lies C f run i ≡ Some card
  laid_down i card past start a e = cc
  laid_down i card past (run then call) a (inl e) =
      ap (λ r. lies C f r i) (sym e) ∙ cond-true _ _ _ (ap₂ ◌&&◌ (eq-eqb i i refl) (sym (present_same past i card) ∙ a))
  laid_down i card past (run then present h x) a (inr k) =
      grind (arith, second card x h, laid_down i card past run a k.0)
  laid_down i card past (run then withdraw h) a (inr k) =
      cond-false _ _ _ (ap (λ b. eqb h i && b) (sym (withdraw_same run h)) ∙ k.1) ∙ laid_down i card past run a k.0
  laid_down i card past (run then seal) a (inr k) = laid_down i card past run a k.0
  laid_down i card past (run then reopen) a (inr k) = laid_down i card past run a k.0
  laid_down i card past (run then opens key names) a (inr k) = laid_down i card past run a k.0

  longer : (i : ℕ) (card : Card) (run : Run Call) (call : Call) → takes_up C u v f i run call ≡ false → LaidDown C u v f run i card
      → LaidDown C u v f (run then call) i card
  longer i card run call e r = (r.0, r.1, inr (r.2, e))

  was_laid_down : (i : ℕ) (card : Card) (run : Run Call) → lies C f run i ≡ Some card → LaidDown C u v f run i card
  was_laid_down i card start e = cc
  was_laid_down i card (run then present h x) e =
      ⊎_elim
      (λ r.
      let same = ap₂ present r.1 r.2 in
      (run, subst (λ call. accepted C u v f run call ≡ true) same (present_same run h x ∙ r.0), inl (ap (λ call. run then call) (sym same))))
      (λ k. longer i card run (present h x) refl (was_laid_down i card run k))
      (after_present h i x card (present_accepted C f (lies C f run h) h x) (lies C f run i) e)
  was_laid_down i card (run then withdraw h) e =
      let kept : lies C f run i ≡ Some card = grind arith in
      let refused : (eqb h i && withdraw_accepted C f (lies C f run h) h) ≡ false = grind arith in
      longer i card run (withdraw h) (ap (λ b. eqb h i && b) (withdraw_same run h) ∙ refused) (was_laid_down i card run kept)
  was_laid_down i card (run then seal) e = longer i card run seal refl (was_laid_down i card run e)
  was_laid_down i card (run then reopen) e = longer i card run reopen refl (was_laid_down i card run e)
  was_laid_down i card (run then opens key names) e = longer i card run (opens key names) refl (was_laid_down i card run e)

  -- every run leaves a table that a sitting can have
  pub table_right : (run : Run Call) → RightTable C f (table C u v f run)
  table_right run = record {
    place_each = table_length C f u v run;
    right_cards = all_from_in (lying (table C u v f run)) (λ a k. right_from C f a.0 a.1
        (lies_right C f run a.0 a.1 (lying_lies C f u v run a k)));
  }

pub lying_by_accepted_calls_lem : LyingByAcceptedCalls
lying_by_accepted_calls_lem C u v f run other e =
    sym (accepted_alone C u v f run) ∙ ap (table C u v f) e ∙ accepted_alone C u v f other

pub lying_until_withdrawn_lem : LyingUntilWithdrawn
lying_until_withdrawn_lem C u v f run = record {
  laid_down_lies = λ i card r. lies_lying C f u v run i card (laid_down C u v f i card r.0 run r.1 r.2);
  lies_laid_down = λ i card k. was_laid_down C u v f i card run (lying_lies C f u v run (i, card) k);
  by_the_calls = table_lies C f u v run;
  present_by_the_calls = present_same C u v f run;
  withdraw_by_the_calls = withdraw_same C u v f run;
}

pub one_card_each_lem : OneCardEach
one_card_each_lem C u v f run = record {
  right = table_right C u v f run;
  apart = lying_apart (table C u v f run);
  numbers = lying_numbers C f u v run;
  second_refused = λ i card other r.
      present_same C u v f run i other ∙ ap (λ o. present_accepted C f o i other) (laid_down C u v f i card r.0 run r.1 r.2)
      ∙ second C u v f card other i;
}
