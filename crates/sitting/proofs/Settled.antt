-- What presenting and withdrawing answer by the flag of the number, and that a write to the table settles it.
-- Assumes nothing.
use Rattle.std.proofs.Common.{◌≡◌, ℕ, ◌-◌, ◌≤◌, Bool, true, false, ◌&&◌, cond, not, leb, List, [], ◌∷◌, ◌++◌, length, get_or, take, set, is_some, Some, None, Ok, count_by, Option, sym, refl, ap, ◌∙◌, arith}
use Rattle.std.proofs.lemmas.List.{length-set}
use Rattle.std.proofs.lemmas.Bool.{and_parts, leb-true, eqb-true}
use Rattle.fields.specs.Laws.{Codes}
use Rattle.scheme.specs.Questions.{first_no}
use Rattle.scheme.specs.declared.types.Figures.{Figures}
use Rattle.scheme.specs.declared.types.Pair.{Pair}
use Rattle.scheme.proofs.Acceptance.{all_yes}
use Rattle.runs.specs.Cards.{Card, is_participant, card_of, card_questions, card_refusal, presented, withdrawn, settled, lying}
use Rattle.sitting.specs.declared.types.Table.{Table}
use Rattle.sitting.specs.Table.{cards_on, written}
use Rattle.sitting.proofs.Lying.{lies_at, cards_written, lying_counted}

-- after questions that are all answered with yes come the others
asked_on : (first others : List (Bool × ℕ)) → first_no first ≡ None → first_no (first ++ others) ≡ first_no others
asked_on [] others e = refl
asked_on (q ∷ first) others e =
    let yes = all_yes (q ∷ first) e in
    ap (λ b. cond b (first_no (first ++ others)) (Some q.1)) yes.0
    ∙ asked_on first others (sym (ap (λ b. cond b (first_no first) (Some q.1)) yes.0) ∙ e)

-- the number of a participant
numbered : (n i : ℕ) → true ≡ (leb 1 i && leb i n) → (1 ≤ i) × (i ≤ n)
numbered n i counts = let both = and_parts _ _ (sym counts) in (leb-true _ _ both.0, leb-true _ _ both.1)

module _ (C : Codes) (f : Figures) (t : Table) (i : ℕ) where
  -- a card that is not refused is that of a participant, and has d pairs
  pub passed : (card : Card) → None ≡ card_refusal C f i card → (true ≡ is_participant C f i) × (length card ≡ f.d)
  passed card e = let yes = all_yes (card_questions C f i card) (sym e) in (sym yes.0, eqb-true _ _ yes.1.0)

  -- by the flag of i
  module _ (lies : Bool) (flag : get_or t.lying (i - 1) false ≡ lies) where
    told : true ≡ is_participant C f i → is_some (card_of (cards_on f t) i) ≡ lies
    told counts = let who = numbered f.n i counts in lies_at f t i who.0 who.1 ∙ flag

    pub presented_by : (card : Card) → None ≡ card_refusal C f i card
        → settled C f (cond (not lies) None (Some 44)) (cards_on f t) i (Some card) ≡ presented C f (cards_on f t) i card
    presented_by card e =
        ap (λ o. settled C f o (cards_on f t) i (Some card))
        (sym (asked_on (card_questions C f i card) ((not (is_some (card_of (cards_on f t) i)), 44) ∷ []) (sym e)
        ∙ ap (λ b. cond (not b) None (Some 44)) (told (passed card e).0)))

    pub withdrawn_by : true ≡ is_participant C f i
        → settled C f (cond lies None (Some 45)) (cards_on f t) i None ≡ withdrawn C f (cards_on f t) i
    withdrawn_by counts =
        ap (λ o. settled C f o (cards_on f t) i None)
        (rw (← counts) (ap (λ b. cond b None (Some 45)) (sym (told counts))))

  -- the answer counts the flags of the table that was written
  pub settled_by : (u : Table) (pairs : List Pair) (lies : Bool) (new : Option Card) (count : ℕ) → u ≡ written t i pairs lies
      → cond lies (Some (take f.d pairs)) None ≡ new → true ≡ is_participant C f i → f.d ≤ length pairs → length pairs ≤ 64
      → length t.lying ≡ 32 → length t.places ≡ 2048 → count ≡ count_by (λ b. b) (take f.n u.lying)
      → (Ok count, cards_on f u) ≡ settled C f None (cards_on f t) i new
  settled_by u pairs lies new count wrote is counts enough short flags wide counted =
      let who = numbered f.n i counts in
      let after = ap (cards_on f) wrote
      ∙ cards_written f t i pairs lies who.0 (omega arith) enough short flags wide
      ∙ ap (set (cards_on f t) (i - 1)) is in
      let flags-after = ap (λ (t : Table). length t.lying) wrote ∙ length-set t.lying (i - 1) lies ∙ flags in
      let answer = counted
      ∙ sym (lying_counted f u flags-after) ∙ ap (λ cards. length (lying cards)) after in
      λ k. (Ok (answer k), after k)
