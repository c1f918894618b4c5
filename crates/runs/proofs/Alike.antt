-- What every call answers under a choice that is no exception.
-- Assumes nothing.
use Rattle.std.proofs.Common.{◌≡◌, ℕ, ◌<◌, ◌≤◌, Bool, true, false, not, eqb, leb, ◌⊎◌, List, [], map, length, get_or, Some, None, Ok, Err, filter, Option, Result, sym, refl, ap, ◌∙◌, subst, ap₂, inl, inr, arith}
use Rattle.std.proofs.lemmas.List.{length-map}
use Rattle.std.proofs.lemmas.List.Elements.{filter_agree}
use Rattle.std.proofs.lemmas.Bool.{leb-true, leb-false, eqb-true, not-false, cases_Bool, cond-true, cond-false}
use Rattle.algebra.specs.Count.{In}
use Rattle.scheme.specs.Questions.{first_no}
use Rattle.scheme.specs.Polynomial.{polynomial_value}
use Rattle.scheme.specs.Dealing.{participants, places}
use Rattle.scheme.specs.declared.types.Figures.{Figures}
use Rattle.fields.specs.Laws.{Codes}
use Rattle.runs.specs.Cards.{Card, Cards, lying, settled}
use Rattle.runs.specs.Opening.{Opening, pair_at, early_questions, late_questions, concluded, FirstThree}
use Rattle.runs.specs.Runs.{Run, start, ◌then◌, Each, Beginning, present, withdraw, seal, reopen, opens, counts, shows, done, table, answers, lies, numbers_lying, altered, lies_altered, lies_unaltered, lying_altered, lying_unaltered}
use Rattle.runs.specs.Law.{Deal, Group, Choice, Move, as_dealt, just, called, Permitted, card_under, calls, opening, Passes, Lies, Deals, Identifies}
use Rattle.runs.proofs.Collected.{number, tested, numbers_kept}
use Rattle.runs.proofs.Tables.{table_lying, lying_length, lying_lies, table_present, table_withdraw, present_by, withdraw_by}
use Rattle.runs.proofs.Opened.{refusing, opening_to, few_clean, many_clean}
use Rattle.runs.proofs.Dealt.{value_polynomials, value_polynomials_codes, key_is, deals_sound, card_value}
use Rattle.runs.proofs.Likeness.{dealt_refusal, same_some_lies, same_lying, same_altered, same_unaltered}
use Rattle.runs.proofs.Beginnings.{whole}
use Rattle.runs.proofs.Naming.{strays, unaltered_parts, unaltered_stays, cards, all_right, most, first_three, written_strays}

-- under the choice c, each altered card that lies after `past` strays
abbrev pub Strict : Deal → Choice → Run Move → Type 0
Strict D c past =
    (i : ℕ) (x : Card) → Lies D c past i x → altered D.figures (card_under D c i) x ≡ true → strays D c (i, x) ≡ true

-- ---- one choice

module _ (D : Deal) (group : List ℕ) (grp : Group D.figures group) (c : Choice) (hc : Deals D group c) (past : Run Move)
    (permitted : Each (Permitted D.codes D.figures group) past) (strict : Strict D c past) where
  open D use {codes, u, v, laws, figures, key}

  abbrev held : ℕ → Option Card
  held = lies codes figures (calls D c past)

  abbrev on_table : List (ℕ × Card)
  on_table = lying (cards D group grp c hc past permitted)

  -- the lying cards that stray are the altered ones
  stray_is : (i : ℕ) (x : Card) → Lies D c past i x → strays D c (i, x) ≡ altered figures (card_under D c i) x
  stray_is i x e = grind (arith, strict i x e, unaltered_stays D c i x)

  tested_altered : (i : ℕ) → tested (strays D c) (held i) i ≡ lies_altered figures (card_under D c i) (held i)
  tested_altered i = grind (arith, stray_is i)

  tested_unaltered : (i : ℕ) → tested (λ a. not (strays D c a)) (held i) i ≡ lies_unaltered figures (card_under D c i) (held i)
  tested_unaltered i = grind (arith, stray_is i)

  -- the numbers whose cards lie altered, and those whose cards lie unaltered
  abbrev A : List ℕ
  A = lying_altered codes figures (card_under D c) (calls D c past)

  abbrev U : List ℕ
  U = lying_unaltered codes figures (card_under D c) (calls D c past)

  numbers_of : (p : ℕ × Card → Bool) → map number (filter p on_table) ≡ filter (λ i. tested p (held i) i) (participants figures)
  numbers_of p = ap (λ l. map number (filter p l)) (table_lying codes figures u v (calls D c past)) ∙ numbers_kept held p (participants figures)

  strays_are : map number (filter (strays D c) on_table) ≡ A
  strays_are = numbers_of (strays D c) ∙ filter_agree _ _ tested_altered (participants figures)

  clean_count : length (filter (λ a. not (strays D c a)) on_table) ≡ length U
  clean_count =
      sym (length-map (filter (λ a. not (strays D c a)) on_table) number)
      ∙ ap length (numbers_of (λ a. not (strays D c a)) ∙ filter_agree _ _ tested_unaltered (participants figures))

  module _ (buffer names : List ℕ) (pass : Passes D c past buffer names) where
    abbrev three : FirstThree figures (length on_table) buffer names
    three = first_three D group grp c hc past permitted buffer names pass

    -- a card that does not stray has its values as dealt
    values_dealt : (a : ℕ × Card) → In a on_table → strays D c a ≡ false → (j : ℕ) → j < figures.d
        → polynomial_value codes (value_polynomials D j) a.0 ≡ (pair_at a.1 j).value
    values_dealt a k e j l =
        let whole = sym (stray_is a.0 a.1 (lying_lies codes figures u v (calls D c past) a k)) ∙ e in
        sym (eqb-true _ _ (not-false _ (unaltered_parts D c a.0 a.1 whole j l).0) ∙ card_value D c a.0 j l)

    pub identified : Identifies D c past buffer names
    identified = record {
      names_the_altered = written_strays D group grp c hc past permitted buffer names pass ∙ strays_are;
      gives_the_key = λ many.
          many_clean laws figures (cards D group grp c hc past permitted) (all_right D group grp c hc past permitted) three.enough
          (λ j. get_or c j [])
          (deals_sound D group c hc) (most D group grp c hc past permitted) buffer names three (value_polynomials D)
          (value_polynomials_codes D) values_dealt
          (omega (arith, clean_count))
          ∙ ap₂ (λ m l. opening_to m l (map (λ j. polynomial_value codes (value_polynomials D j) 0) (places figures)) names)
          (lying_length codes figures u v (calls D c past)) strays_are
          ∙ ap (λ k. opening_to (length (numbers_lying codes figures (calls D c past))) A k names) (key_is D);
      refuses_else = λ few.
          few_clean laws figures (cards D group grp c hc past permitted) (all_right D group grp c hc past permitted) three.enough
          (λ j. get_or c j [])
          (deals_sound D group c hc) (most D group grp c hc past permitted) buffer names three (omega (arith, clean_count))
          ∙ ap (λ l. refusing 36 l buffer names) strays_are;
    }

-- ---- two choices

-- an answer by its refusal and what lies then
abbrev told : Option ℕ → ℕ → Result ℕ ℕ
told None m = Ok m
told (Some e) m = Err e

settled_told : (C : Codes) (f : Figures) (r : Option ℕ) (T : Cards) (h : ℕ) (new : Option Card)
    → (settled C f r T h new).0 ≡ told r (length (lying (settled C f r T h new).1))
settled_told C f r T h new = grind arith

module _ (D : Deal) (group : List ℕ) (grp : Group D.figures group) (b c : Choice) (hb : Deals D group b) (hc : Deals D group c) where
  open D use {codes, u, v, figures, key}

  abbrev under : Choice → Run Move → Cards
  under e past = table codes u v figures (calls D e past)

  -- as many cards lie
  same_count : (past : Run Move) → Each (Permitted codes figures group) past → length (lying (under b past)) ≡ length (lying (under c past))
  same_count past permitted =
      lying_length codes figures u v (calls D b past) ∙ ap length (same_lying D group b c hb hc past permitted) ∙ sym
      (lying_length codes figures u v (calls D c past))

  -- an open that passes its first three questions
  open_same : (past : Run Move) → Each (Permitted codes figures group) past → Strict D b past → Strict D c past
      → (buffer names : List ℕ) → Passes D b past buffer names → Passes D c past buffer names → opening D b past buffer names
      ≡ opening D c past buffer names
  open_same past permitted sb sc buffer names pb pc = by (cases_Bool (leb figures.k (length (free b))))
    where
      free : Choice → List ℕ
      free e = lying_unaltered codes figures (card_under D e) (calls D e past)

      same_free : free b ≡ free c
      same_free = same_unaltered D group b c hb hc past permitted

      ib : Identifies D b past buffer names
      ib = identified D group grp b hb past permitted sb buffer names pb

      ic : Identifies D c past buffer names
      ic = identified D group grp c hc past permitted sc buffer names pc

      by : (leb figures.k (length (free b)) ≡ true) ⊎ (leb figures.k (length (free b)) ≡ false)
          → opening D b past buffer names ≡ opening D c past buffer names
      by (inl e) =
          ib.gives_the_key (leb-true _ _ e)
          ∙ ap₂ (λ (m l : List ℕ). opening_to (length m) l key names)
          (same_lying D group b c hb hc past permitted) (same_altered D group b c hb hc past permitted)
          ∙ sym (ic.gives_the_key (subst (λ l. figures.k ≤ length l) same_free (leb-true _ _ e)))
      by (inr e) =
          ib.refuses_else (leb-false _ _ e)
          ∙ ap (λ l. refusing 36 l buffer names) (same_altered D group b c hb hc past permitted)
          ∙ sym (ic.refuses_else (subst (λ l. length l < figures.k) same_free (leb-false _ _ e)))

  -- any open
  any_open : (past : Run Move) → Each (Permitted codes figures group) past → Strict D b past → Strict D c past
      → (buffer names : List ℕ) → opening D b past buffer names ≡ opening D c past buffer names
  any_open past permitted sb sc buffer names =
      by (cases_Bool (eqb (length buffer) figures.d)) (cases_Bool (leb figures.n (length names)))
      (cases_Bool (leb figures.k (length (lying (under b past)))))
    where
      early : Choice → Option ℕ
      early e = first_no (early_questions codes u v figures (under e past) buffer names)

      closed : Choice → Option ℕ → Opening
      closed e o = concluded codes u v figures (under e past) o (first_no (late_questions codes u v figures (under e past))) buffer names

      refused : (n : ℕ) → early b ≡ Some n → early c ≡ Some n → opening D b past buffer names ≡ opening D c past buffer names
      refused n p r = ap (closed b) p ∙ sym (ap (closed c) r)

      pass : (e : Choice) → eqb (length buffer) figures.d ≡ true → leb figures.n (length names) ≡ true
          → leb figures.k (length (lying (under e past))) ≡ true → Passes D e past buffer names
      pass e p r s = record {
        key_room = eqb-true _ _ p;
        names_room = leb-true _ _ r;
        enough = subst (λ m. figures.k ≤ m) (lying_length codes figures u v (calls D e past)) (leb-true _ _ s);
      }

      by : (eqb (length buffer) figures.d ≡ true) ⊎ (eqb (length buffer) figures.d ≡ false)
          → (leb figures.n (length names) ≡ true) ⊎ (leb figures.n (length names) ≡ false)
          → (leb figures.k (length (lying (under b past))) ≡ true) ⊎ (leb figures.k (length (lying (under b past))) ≡ false)
          → opening D b past buffer names ≡ opening D c past buffer names
      by (inr p) r s = refused 31 (cond-false _ _ _ p) (cond-false _ _ _ p)
      by (inl p) (inr r) s = refused 32 (cond-true _ _ _ p ∙ cond-false _ _ _ r) (cond-true _ _ _ p ∙ cond-false _ _ _ r)
      by (inl p) (inl r) (inr s) =
          refused 33 (cond-true _ _ _ p ∙ cond-true _ _ _ r ∙ cond-false _ _ _ s)
          (cond-true _ _ _ p ∙ cond-true _ _ _ r ∙ cond-false _ _ _ (ap (leb figures.k) (sym (same_count past permitted)) ∙ s))
      by (inl p) (inl r) (inl s) =
          open_same past permitted sb sc buffer names (pass b p r s) (pass c p r (ap (leb figures.k) (sym (same_count past permitted)) ∙ s))

  -- a present or a withdraw of number h, by its refusals r and s
  settled_same : (past : Run Move) (m : Move) → Each (Permitted codes figures group) (past then m) → (h : ℕ) (x y : Option Card) (r s : Option ℕ)
      → (settled codes figures r (under b past) h x).1 ≡ under b (past then m) → (settled codes figures s (under c past) h y).1 ≡ under c (past then m)
      → r ≡ s → (settled codes figures r (under b past) h x).0 ≡ (settled codes figures s (under c past) h y).0
  settled_same past m permitted h x y r s p w e =
      settled_told codes figures r _ h x
      ∙ ap₂ told e (ap (λ t. length (lying t)) p ∙ same_count (past then m) permitted ∙ sym (ap (λ t. length (lying t)) w))
      ∙ sym (settled_told codes figures s _ h y)

  answer_same : (past : Run Move) (m : Move) → Each (Permitted codes figures group) (past then m) → Strict D b past → Strict D c past
      → (done codes u v figures (called (card_under D b) m) (under b past)).0 ≡ (done codes u v figures (called (card_under D c) m) (under c past)).0
  answer_same past (as_dealt h) permitted sb sc =
      ap counts (settled_same past (as_dealt h) permitted h _ _ _ _ refl refl
      (table_present codes figures u v (calls D b past) h _
      ∙ dealt_refusal D group b c hb hc h _ _ permitted.1 (same_some_lies D group b c hb hc past permitted.0 h)
      ∙ sym (table_present codes figures u v (calls D c past) h _)))
  answer_same past (just (present h x)) permitted sb sc =
      ap counts (settled_same past (just (present h x)) permitted h _ _ _ _ refl refl
      (table_present codes figures u v (calls D b past) h x
      ∙ present_by codes figures _ _ h x (same_some_lies D group b c hb hc past permitted.0 h)
      ∙ sym (table_present codes figures u v (calls D c past) h x)))
  answer_same past (just (withdraw h)) permitted sb sc =
      ap counts (settled_same past (just (withdraw h)) permitted h _ _ _ _ refl refl
      (table_withdraw codes figures u v (calls D b past) h
      ∙ withdraw_by codes figures _ _ h (same_some_lies D group b c hb hc past permitted.0 h)
      ∙ sym (table_withdraw codes figures u v (calls D c past) h)))
  answer_same past (just seal) permitted sb sc = refl
  answer_same past (just reopen) permitted sb sc = refl
  answer_same past (just (opens buffer names)) permitted sb sc = ap shows (any_open past permitted.0 sb sc buffer names)

  pub answers_same : (script : Run Move) → Each (Permitted codes figures group) script → ((past : Run Move) → Beginning past script → Strict D b past)
      → ((past : Run Move) → Beginning past script → Strict D c past)
      → answers codes u v figures (calls D b script) ≡ answers codes u v figures (calls D c script)
  answers_same start permitted sb sc = refl
  answers_same (past then m) permitted sb sc =
      ap₂ ◌then◌ (answers_same past permitted.0 (λ p e. sb p (inr e)) (λ p e. sc p (inr e)))
      (answer_same past m permitted (sb past (inr (whole past))) (sc past (inr (whole past))))
