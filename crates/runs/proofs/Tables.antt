-- The table after a run of calls holds what lies by the calls alone.
-- Assumes nothing.
use Rattle.std.proofs.Common.{◌≡◌, ℕ, ◌-◌, ◌≤◌, Bool, true, cond, not, ◌&&◌, eqb, leb, ◌⊎◌, [], ◌∷◌, ◌++◌, map, length, is_some, Some, None, Option, sym, refl, ap, ◌∙◌, subst, ap₂, arith, length-set}
use Rattle.std.specs.List.{list_all}
use Rattle.std.proofs.lemmas.List.{length-replicate, get_or-replicate, get_or-set_same, get_or-set_other, length-map}
use Rattle.std.proofs.lemmas.Bool.{leb-true, le-leb, eqb-true, eq-eqb, and_parts}
use Rattle.algebra.specs.Count.{In}
use Rattle.fields.specs.Laws.{Codes}
use Rattle.scheme.specs.Questions.{first_no}
use Rattle.scheme.specs.Dealing.{participants}
use Rattle.scheme.specs.declared.types.Figures.{Figures}
use Rattle.scheme.proofs.Acceptance.{all_yes, no_refusal}
use Rattle.scheme.proofs.Enumerated.{in_counting, counting_in}
use Rattle.runs.specs.Cards.{Card, Cards, card_of, lying, is_coded_pair, is_participant, card_questions, card_refusal, present_refusal, withdraw_refusal, settled}
use Rattle.runs.specs.Runs.{Run, start, ◌then◌, Call, present, withdraw, seal, reopen, opens, table, present_accepted, lies, numbers_lying}
use Rattle.runs.proofs.Collected.{number, collect, in_collect, collect_in, collect_same, numbers_collected, lying_is}

-- what lies after a present is its card, where it is accepted, or lay before
pub after_present : (h i : ℕ) (y x : Card) (accepted : Bool) (o : Option Card) → cond (eqb h i && accepted) (Some y) o ≡ Some x
    → ((accepted ≡ true) × (h ≡ i) × (y ≡ x)) ⊎ (o ≡ Some x)
after_present h i y x accepted o e = grind arith

module _ (C : Codes) (f : Figures) where
  pub participant_low : (i : ℕ) → is_participant C f i ≡ true → 1 ≤ i
  participant_low i e = leb-true 1 i (and_parts (leb 1 i) (leb i f.n) e).0

  pub participant_high : (i : ℕ) → is_participant C f i ≡ true → i ≤ f.n
  participant_high i e = leb-true i f.n (and_parts (leb 1 i) (leb i f.n) e).1

  pub participant : (i : ℕ) → 1 ≤ i → i ≤ f.n → is_participant C f i ≡ true
  participant i a b = ap₂ ◌&&◌ (le-leb 1 i a) (le-leb i f.n b)

  -- what the questions about a card settle
  abbrev pub RightCard : ℕ → Card → Type 0
  RightCard i card = (is_participant C f i ≡ true) × (length card ≡ f.d) × (list_all (is_coded_pair C) card ≡ true)

  pub right_card : (i : ℕ) (card : Card) → card_refusal C f i card ≡ None → RightCard i card
  right_card i card e = let yes = all_yes (card_questions C f i card) e in (yes.0, eqb-true _ _ yes.1.0, yes.1.1.0)

  pub right_from : (i : ℕ) (card : Card) → RightCard i card → card_refusal C f i card ≡ None
  right_from i card r = no_refusal (card_questions C f i card) (r.0, (eq-eqb _ _ r.1, (r.2, tt)))

  unrefused_right : (old : Option Card) (i : ℕ) (card : Card) → present_refusal C f old i card ≡ None → RightCard i card
  unrefused_right old i card e =
      let yes = all_yes (card_questions C f i card ++ (not (is_some old), 44) ∷ []) e in (yes.0, eqb-true _ _ yes.1.0, yes.1.1.0)

  pub accepted_right : (old : Option Card) (i : ℕ) (card : Card) → present_accepted C f old i card ≡ true → RightCard i card
  accepted_right old i card e = grind (arith, unrefused_right old i card)

  -- ---- only whether a card lies decides the questions, and only where i is a participant

  pub present_by : (x y : Option Card) (i : ℕ) (card : Card) → is_some x ≡ is_some y → present_refusal C f x i card ≡ present_refusal C f y i card
  present_by x y i card e = ap (λ b. first_no (card_questions C f i card ++ (not b, 44) ∷ [])) e

  pub withdraw_by : (x y : Option Card) (i : ℕ) → is_some x ≡ is_some y → withdraw_refusal C f x i ≡ withdraw_refusal C f y i
  withdraw_by x y i e = ap (λ b. first_no ((is_participant C f i, 41) ∷ (b, 45) ∷ [])) e

  where_participant : (i : ℕ) (x y : Option ℕ) → (is_participant C f i ≡ true → x ≡ y)
      → cond (is_participant C f i) x (Some 41) ≡ cond (is_participant C f i) y (Some 41)
  where_participant i x y h = grind arith

  present_where : (x y : Option Card) (i : ℕ) (card : Card) → (is_participant C f i ≡ true → x ≡ y)
      → present_refusal C f x i card ≡ present_refusal C f y i card
  present_where x y i card h =
      where_participant i _ _
      (λ n. ap (λ o. first_no ((eqb (length card) f.d, 42) ∷ (list_all (is_coded_pair C) card, 43) ∷ (not (is_some o), 44) ∷ [])) (h n))

  withdraw_where : (x y : Option Card) (i : ℕ) → (is_participant C f i ≡ true → x ≡ y) → withdraw_refusal C f x i ≡ withdraw_refusal C f y i
  withdraw_where x y i h = where_participant i _ _ (λ n. ap (λ o. first_no ((is_some o, 45) ∷ [])) (h n))

  -- ---- a card is laid down or taken up

  settled_length : (r : Option ℕ) (T : Cards) (h : ℕ) (new : Option Card) → length T ≡ f.n → length (settled C f r T h new).1 ≡ f.n
  settled_length None T h new e = length-set T (h - 1) new ∙ e
  settled_length (Some x) T h new e = e

  settled_at : (r : Option ℕ) (T : Cards) (h i : ℕ) (new l : Option Card) → length T ≡ f.n
      → (r ≡ None → is_participant C f h ≡ true) → is_participant C f i ≡ true → card_of T i ≡ l
      → card_of (settled C f r T h new).1 i ≡ cond (eqb h i && not (is_some r)) new l
  settled_at (Some x) T h i new l e n m k = grind arith
  settled_at None T h i new l e n m k =
      let nh = participant_low h (n refl) in
      let ni = participant_low i m in
      let hi = participant_high i m in
      grind (arith, get_or-set_same T (i - 1) new None, get_or-set_other T (h - 1) (i - 1) new None)

  withdraw_participant : (old : Option Card) (i : ℕ) → withdraw_refusal C f old i ≡ None → is_participant C f i ≡ true
  withdraw_participant old i e = (all_yes ((is_participant C f i, 41) ∷ (is_some old, 45) ∷ []) e).0

  -- ---- what lies passed the questions about a card

  pub lies_right : (past : Run Call) (i : ℕ) (card : Card) → lies C f past i ≡ Some card → RightCard i card
  lies_right start i card e = cc
  lies_right (past then present h x) i card e =
      grind (
        arith,
        after_present h i x card (present_accepted C f (lies C f past h) h x) (lies C f past i) e,
        accepted_right (lies C f past h) h x,
        lies_right past i card,
      )
  lies_right (past then withdraw h) i card e = grind (arith, lies_right past i card)
  lies_right (past then seal) i card e = lies_right past i card e
  lies_right (past then reopen) i card e = lies_right past i card e
  lies_right (past then opens key names) i card e = lies_right past i card e

  -- ---- the table and what lies

  module _ (u v : ℕ) where
    pub table_length : (past : Run Call) → length (table C u v f past) ≡ f.n
    table_length start = length-replicate f.n None
    table_length (past then present i card) =
        settled_length (present_refusal C f (card_of (table C u v f past) i) i card) (table C u v f past) i (Some card) (table_length past)
    table_length (past then withdraw i) =
        settled_length (withdraw_refusal C f (card_of (table C u v f past) i) i) (table C u v f past) i None (table_length past)
    table_length (past then seal) = table_length past
    table_length (past then reopen) = table_length past
    table_length (past then opens key names) = table_length past

    pub table_lies : (past : Run Call) (i : ℕ) → is_participant C f i ≡ true → card_of (table C u v f past) i ≡ lies C f past i
    table_lies start i m =
        get_or-replicate f.n (i - 1) None None (let a = participant_low i m in let b = participant_high i m in omega arith)
    table_lies (past then present h card) i m =
        ap (λ r. card_of (settled C f r (table C u v f past) h (Some card)).1 i)
        (present_where (card_of (table C u v f past) h) (lies C f past h) h card (table_lies past h))
        ∙ settled_at (present_refusal C f (lies C f past h) h card) (table C u v f past) h i (Some card) (lies C f past i) (table_length past)
        (λ e. (unrefused_right (lies C f past h) h card e).0) m (table_lies past i m)
    table_lies (past then withdraw h) i m =
        ap (λ r. card_of (settled C f r (table C u v f past) h None).1 i)
        (withdraw_where (card_of (table C u v f past) h) (lies C f past h) h (table_lies past h))
        ∙ settled_at (withdraw_refusal C f (lies C f past h) h) (table C u v f past) h i None (lies C f past i) (table_length past)
        (withdraw_participant (lies C f past h) h) m (table_lies past i m)
    table_lies (past then seal) i m = table_lies past i m
    table_lies (past then reopen) i m = table_lies past i m
    table_lies (past then opens key names) i m = table_lies past i m

    -- the questions put to the table are those put by the calls alone
    pub table_present : (past : Run Call) (h : ℕ) (card : Card)
        → present_refusal C f (card_of (table C u v f past) h) h card ≡ present_refusal C f (lies C f past h) h card
    table_present past h card = present_where (card_of (table C u v f past) h) (lies C f past h) h card (table_lies past h)

    pub table_withdraw : (past : Run Call) (h : ℕ)
        → withdraw_refusal C f (card_of (table C u v f past) h) h ≡ withdraw_refusal C f (lies C f past h) h
    table_withdraw past h = withdraw_where (card_of (table C u v f past) h) (lies C f past h) h (table_lies past h)

    -- ---- the list of the cards that lie

    pub table_lying : (past : Run Call) → lying (table C u v f past) ≡ collect (lies C f past) (participants f)
    table_lying past =
        lying_is (table C u v f past) f.n (table_length past)
        ∙ collect_same (card_of (table C u v f past)) (lies C f past) (participants f)
        (λ i k. let r = counting_in 1 f.n i k in table_lies past i (participant i r.0 (omega (arith, r))))

    pub lying_numbers : (past : Run Call) → map number (lying (table C u v f past)) ≡ numbers_lying C f past
    lying_numbers past = ap (map number) (table_lying past) ∙ numbers_collected (lies C f past) (participants f)

    pub lying_length : (past : Run Call) → length (lying (table C u v f past)) ≡ length (numbers_lying C f past)
    lying_length past = sym (length-map (lying (table C u v f past)) number) ∙ ap length (lying_numbers past)

    pub lying_lies : (past : Run Call) (a : ℕ × Card) → In a (lying (table C u v f past)) → lies C f past a.0 ≡ Some a.1
    lying_lies past a k = (in_collect (lies C f past) (participants f) a (subst (In a) (table_lying past) k)).1

    pub lies_lying : (past : Run Call) (i : ℕ) (card : Card) → lies C f past i ≡ Some card → In (i, card) (lying (table C u v f past))
    lies_lying past i card e =
        let m = (lies_right past i card e).0 in
        subst (In (i, card)) (sym (table_lying past)) (collect_in (lies C f past) (participants f) i card
        (in_counting 1 f.n i (participant_low i m) (omega (arith, participant_high i m))) e)
