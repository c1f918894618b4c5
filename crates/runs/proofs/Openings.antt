-- The opening of one table.
-- Assumes nothing.
use Rattle.std.proofs.Common.{◌≡◌, ℕ, ◌+◌, ◌<◌, ◌≤◌, Bool, true, false, cond, not, leb, ◌⊎◌, List, [], ◌∷◌, map, length, get_or, replicate, Some, None, Ok, Err, filter, Option, Result, sym, ap, ◌∙◌, subst, ap₂, inl, inr, arith}
use Rattle.std.specs.List.{range_with_len, AllByRecursion, list_all}
use Rattle.std.proofs.ByRecursion.{All-weaker}
use Rattle.std.proofs.lemmas.List.{nil_from_length}
use Rattle.std.proofs.lemmas.Bool.{le-leb, leb-false, eq-eqb, cond-true, cases_Bool}
use Rattle.algebra.specs.Count.{In}
use Rattle.algebra.proofs.Counting.{all_in, all_from_in}
use Rattle.fields.specs.Laws.{Codes, DoublableLaws}
use Rattle.scheme.specs.Questions.{first_no}
use Rattle.scheme.specs.Dealing.{places}
use Rattle.scheme.specs.declared.types.Figures.{Figures}
use Rattle.scheme.proofs.Enumerated.{kept_none, counting_in}
use Rattle.runs.specs.Cards.{Card, Cards, card_of, lying, card_refusal, RightTable}
use Rattle.runs.specs.Opening.{Opening, pair_at, fitting_at, unnamed, value_curves, early_questions, late_questions, concluded, opened, FirstThree}
use Rattle.runs.specs.Runs.{altered}
use Rattle.runs.specs.Law.{Choice, dealt_choice, card_under}
use Rattle.runs.specs.Openings.{Settles, FittingSettles, DealtCardsOpen}
use Rattle.runs.proofs.Lists.{every_from, not_every, not_every_in, kept_all, place_below, in_places}
use Rattle.runs.proofs.Collected.{number, in_collect, lying_is}
use Rattle.runs.proofs.Tables.{participant, RightCard, right_card}
use Rattle.runs.proofs.Opened.{opening_to, fitting_at_few, many_clean}
use Rattle.runs.proofs.Dealt.{Sound, value_polynomials, value_polynomials_codes, key_is, dealt_deals, deals_sound, shares_dealt, card_right, card_value}
use Rattle.runs.proofs.Likeness.{itself_unaltered}
use Rattle.runs.proofs.Naming.{tag_right, strays, dealt_tag_right, unaltered_parts, unaltered_stays}

-- ---- where no polynomial fits

module _ (C : Codes) (u v : ℕ) (L : DoublableLaws C u v) (f : Figures) (cards : Cards) (right : RightTable C f cards) (key names : List ℕ)
    (first : FirstThree f (length (lying cards)) key names) where
  few : (j : ℕ) → length (fitting_at C u v f cards j) ≤ 1
  few =
      fitting_at_few L f cards
      (All-weaker (λ (a : ℕ × Card). card_refusal C f a.0 a.1 ≡ None) _ (λ a e. right_card C f a.0 a.1 e) (lying cards)
      right.right_cards)
      first.enough

  -- some polynomial fits at each place
  abbrev some_fits : Bool
  some_fits = list_all (λ j. leb 1 (length (fitting_at C u v f cards j))) (places f)

  early_is : first_no (early_questions C u v f cards key names) ≡ cond some_fits None (Some 34)
  early_is =
      cond-true _ _ _ (eq-eqb _ _ first.key_room) ∙ cond-true _ _ _ (le-leb _ _ first.names_room) ∙ cond-true _ _ _ (le-leb _ _ first.enough)
      ∙ ap (λ b. cond some_fits (cond b None (Some 35)) (Some 34))
      (every_from _ (places f) (λ j _. le-leb (length (fitting_at C u v f cards j)) 1 (few j)))

  abbrev closed : Option ℕ → Opening
  closed o = concluded C u v f cards o (first_no (late_questions C u v f cards)) key names

  opened_is : (b : Bool) → some_fits ≡ b → opened C u v f cards key names ≡ closed (cond b None (Some 34))
  opened_is b e = ap closed (early_is ∙ ap (λ b. cond b None (Some 34)) e)

  same_number : (a b : ℕ × ℕ) → ◌≡◌ {A = Result (ℕ × ℕ) (ℕ × ℕ)} (Err a) (Err b) → a.0 ≡ b.0
  same_number a b e = cc

  not_ok : (a b : ℕ × ℕ) → ◌≡◌ {A = Result (ℕ × ℕ) (ℕ × ℕ)} (Ok a) (Err b) → ⊥
  not_ok a b e = cc

  -- where something fits everywhere, only 36 and 37 refuse
  not_late : (e count : ℕ) → e < 36 → (closed None).answer ≡ Err (e, count) → ⊥
  not_late e count l =
      by (leb f.k (length (unnamed C u v f cards))) (list_all (λ j. leb 1 (length (value_curves C u v f cards j))) (places f))
    where
      by : (a b : Bool) → (concluded C u v f cards None (first_no ((a, 36) ∷ (b, 37) ∷ [])) key names).answer ≡ Err (e, count) → ⊥
      by a b h = grind arith

  settles : Settles C u v f cards key names
  settles = record {
    at_most_one_fits = few;
    none_fits_refused = λ j l e.
        opened_is false (not_every (λ j. leb 1 (length (fitting_at C u v f cards j))) (places f) j (in_places f.d j l)
        (ap (λ l. leb 1 (length l)) e));
    refused_none_fits = λ count e. refused count (cases_Bool some_fits) e;
    never_two_fit = λ count e. never count (cases_Bool some_fits) e;
  }
    where
      refused : (count : ℕ) → (some_fits ≡ true) ⊎ (some_fits ≡ false) → (opened C u v f cards key names).answer ≡ Err (34, count)
          → (j : ℕ) × (j < f.d) × (fitting_at C u v f cards j ≡ [])
      refused count (inl h) e = absurd (not_late 34 count (omega arith) (sym (ap (λ (o : Opening). o.answer) (opened_is true h)) ∙ e))
      refused count (inr h) e =
          let r = not_every_in (λ j. leb 1 (length (fitting_at C u v f cards j))) (places f) h in
          (r.0, place_below f.d r.0 r.1, nil_from_length (fitting_at C u v f cards r.0) (omega (arith, leb-false 1 _ r.2)))

      never : (count : ℕ) → (some_fits ≡ true) ⊎ (some_fits ≡ false) → (opened C u v f cards key names).answer ≡ Err (35, count) → ⊥
      never count (inl h) e = not_late 35 count (omega arith) (sym (ap (λ (o : Opening). o.answer) (opened_is true h)) ∙ e)
      never count (inr h) e = let z = same_number _ _ (sym (ap (λ (o : Opening). o.answer) (opened_is false h)) ∙ e) in omega arith

pub fitting_settles_lem : FittingSettles
fitting_settles_lem C u v L f cards right key names first = settles C u v L f cards right key names first

-- ---- cards as dealt, lying alone

pub dealt_cards_open_lem : DealtCardsOpen
dealt_cards_open_lem D cards size alone buffer names first =
    many_clean laws figures cards right first.enough (λ j. get_or c j []) sound most buffer names first (value_polynomials D)
    (value_polynomials_codes D)
    (λ a k _ j l. sym (ap (λ x. (pair_at x j).value) (as_dealt a k) ∙ card_value D c a.0 j l))
    (subst (λ l. figures.k ≤ length l) (sym (kept_all (λ a. not (strays D c a)) (lying cards) (λ a k. ap not (stays a k)))) first.enough)
    ∙ ap₂ (λ l s. opening_to (length (lying cards)) l s names)
    (ap (map number) (kept_none (strays D c) (lying cards) stays)) (key_is D)
    ∙ ap (λ n. record { answer = Ok (length (lying cards), 0); key = D.key; names = replicate n 0 }) (omega arith)
  where
    open D use {codes, u, v, laws, figures}

    c : Choice
    c = dealt_choice D

    sound : Sound D c
    sound = deals_sound D [] c (dealt_deals D [])

    as_dealt : (a : ℕ × Card) → In a (lying cards) → a.1 ≡ card_under D c a.0
    as_dealt a k = all_in _ (lying cards) a alone k ∙ sym (shares_dealt D a.0)

    right : AllByRecursion (λ (a : ℕ × Card). RightCard codes figures a.0 a.1) (lying cards)
    right = all_from_in (lying cards) (λ a k.
        let r = counting_in 1 figures.n a.0 (in_collect (card_of cards) (range_with_len 1 figures.n) a
        (subst (In a) (lying_is cards figures.n size) k)).0 in
        subst (RightCard codes figures a.0) (sym (as_dealt a k))
        (card_right D c a.0 sound (participant codes figures a.0 r.0 (omega (arith, r)))))

    unaltered : (a : ℕ × Card) → In a (lying cards) → altered figures (card_under D c a.0) a.1 ≡ false
    unaltered a k = ap (altered figures (card_under D c a.0)) (as_dealt a k) ∙ itself_unaltered figures (card_under D c a.0)

    stays : (a : ℕ × Card) → In a (lying cards) → strays D c a ≡ false
    stays a k = unaltered_stays D c a.0 a.1 (unaltered a k)

    most : (j : ℕ) → j < figures.d → length (lying cards) ≤ length (filter (tag_right D c j) (lying cards)) + figures.t
    most j l =
        omega (
          arith,
          ap length (kept_all (tag_right D c j) (lying cards) (λ a k.
              let r = unaltered_parts D c a.0 a.1 (unaltered a k) j l in dealt_tag_right D c a.0 a.1 j l r.0 r.1)),
        )
