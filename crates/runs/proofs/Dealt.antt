-- What an accepted deal gives: the polynomials of each place, and the cards that a choice of tag polynomials deals.
-- Assumes nothing.
use Rattle.std.proofs.Common.{◌≡◌, ℕ, suc, ◌+◌, ◌-◌, ◌*◌, ◌<◌, ◌≤◌, true, cond, not, ◌&&◌, List, [], map, length, get_or, drop, is_some, Some, None, Option, sym, refl, ap, ◌∙◌, subst, ap₂, mul-le-mul_right, suc-mul, zero-add, arith, length-drop}
use Rattle.std.specs.List.{AllByRecursion, list_all}
use Rattle.std.proofs.lemmas.List.FromFn.{length-map-range_with_len, get_or-map-range_with_len, fill_by_all}
use Rattle.std.proofs.ByRecursion.{All-take, All-drop, All-get_or, All-map}
use Rattle.std.proofs.lemmas.List.{length-take-le}
use Rattle.std.proofs.lemmas.Bool.{eq-eqb, lt-ltb, cond-true}
use Rattle.algebra.proofs.Counting.{all_with, all_from_in, in_map_back}
use Rattle.fields.specs.Doubled.{doubled, join}
use Rattle.fields.specs.DoubledLaws.{doubled_laws}
use Rattle.scheme.specs.Polynomial.{polynomial_value}
use Rattle.scheme.specs.Dealing.{at_place, places, value_polynomial, tag_polynomial, dealt_pair}
use Rattle.scheme.specs.declared.types.Pair.{Pair}
use Rattle.scheme.proofs.Acceptance.{Accepted, accepted}
use Rattle.scheme.proofs.Enumerated.{CodesOf}
use Rattle.runs.specs.Cards.{blank, Card, is_coded_pair, is_participant, present_refusal}
use Rattle.runs.specs.Opening.{pair_at}
use Rattle.runs.specs.Law.{Deal, Choice, q, dealt_card, dealt_choice, card_under, Deals}
use Rattle.runs.proofs.Bridge.{value_below, value_at_zero}
use Rattle.runs.proofs.Lists.{every_from, map_same, place_below}
use Rattle.runs.proofs.Opened.{small, point_below}
use Rattle.runs.proofs.Tables.{participant_high, RightCard}

-- the coefficients of a place
at_place_codes : (size s d : ℕ) (coefficients : List ℕ) (j : ℕ) → length coefficients ≡ d * s → AllByRecursion (λ a. a < size) coefficients → j < d
    → CodesOf size s (at_place s coefficients j)
at_place_codes size s d coefficients j e h l =
    let a : suc j * s ≤ d * s = mul-le-mul_right s l in
    let b : suc j * s ≡ j * s + s = suc-mul j s in (
      length-take-le s (drop (j * s) coefficients) (omega (arith, length-drop (j * s) coefficients, a, b)),
      All-take (λ a. a < size) s (drop (j * s) coefficients) (All-drop (λ a. a < size) (j * s) coefficients h),
    )

module _ (D : Deal) where
  open D use {codes, u, v, laws, figures, key, values, tags}

  facts : Accepted codes figures key values tags
  facts = (accepted codes u v figures key values tags (figures.n * figures.d) D.accepted).0

  -- ---- value polynomials

  abbrev pub value_polynomials : ℕ → List ℕ
  value_polynomials = value_polynomial figures key values

  key_below : (j : ℕ) → j < figures.d → get_or key j 0 < codes.size
  key_below j l = All-get_or (λ a. a < codes.size) key j 0 (omega (arith, facts.key_length)) facts.key_codes

  value_coefficients : (j : ℕ) → j < figures.d → CodesOf codes.size (figures.k - 1) (at_place (figures.k - 1) values j)
  value_coefficients j l = at_place_codes codes.size (figures.k - 1) figures.d values j facts.values_length facts.values_codes l

  pub value_polynomials_codes : (j : ℕ) → j < figures.d → CodesOf codes.size figures.k (value_polynomials j)
  value_polynomials_codes j l =
      let r = value_coefficients j l in
      let one : 1 ≤ figures.k = figures.threshold.0 in (omega (arith, r.0), (key_below j l, r.1))

  pub dealt_value_below : (i j : ℕ) → is_participant codes figures i ≡ true → j < figures.d → polynomial_value codes (value_polynomials j) i < codes.size
  dealt_value_below i j m l =
      value_below laws.on_codes (value_polynomials j) i (value_polynomials_codes j l).1
      (small laws figures i (participant_high codes figures i m))

  -- the values at zero are the key
  pub key_is : map (λ j. polynomial_value codes (value_polynomials j) 0) (places figures) ≡ key
  key_is =
      sym (fill_by_all (λ j. polynomial_value codes (value_polynomials j) 0) key figures.d 0 facts.key_length
      (λ j l. sym (value_at_zero laws.on_codes (get_or key j 0) _ (key_below j l) (value_coefficients j l).1)))

  -- ---- tag polynomials

  -- t + 1 codes at each place
  abbrev pub Sound : Choice → Type 0
  Sound c = (j : ℕ) → j < figures.d → CodesOf (q D) (suc figures.t) (get_or c j [])

  tag_codes : (j : ℕ) → j < figures.d → CodesOf (q D) (figures.t + 1) (tag_polynomial figures tags j)
  tag_codes j l = at_place_codes (q D) (figures.t + 1) figures.d tags j facts.tags_length facts.tags_codes l

  pub dealt_at : (j : ℕ) → j < figures.d → get_or (dealt_choice D) j [] ≡ tag_polynomial figures tags j
  dealt_at j l = get_or-map-range_with_len (tag_polynomial figures tags) 0 figures.d j j [] l (zero-add j)

  pub dealt_deals : (group : List ℕ) → Deals D group (dealt_choice D)
  dealt_deals group = record {
    each_place = length-map-range_with_len (tag_polynomial figures tags) 0 figures.d;
    degrees = All-map _ (tag_polynomial figures tags) (places figures)
        (all_from_in (places figures) (λ j k. tag_codes j (place_below figures.d j k)));
    same_cards = all_from_in group (λ i _. refl);
  }

  pub deals_sound : (group : List ℕ) (c : Choice) → Deals D group c → Sound c
  deals_sound group c h j l =
      let r = All-get_or (λ g. (length g ≡ figures.t + 1) × AllByRecursion (λ a. a < q D) g) c j [] (omega (arith, h.each_place)) h.degrees in
      (omega (arith, r.0), r.1)

  pub shares_dealt : (i : ℕ) → card_under D (dealt_choice D) i ≡ dealt_card D i
  shares_dealt i =
      map_same _ _ (places figures) (λ j k. ap (λ h. dealt_pair codes u v (value_polynomials j) h i) (dealt_at j (place_below figures.d j k)))

  -- ---- the card that a choice deals

  module _ (c : Choice) (i : ℕ) where
    card_length : length (card_under D c i) ≡ figures.d
    card_length = length-map-range_with_len (λ j. dealt_pair codes u v (value_polynomials j) (get_or c j []) i) 0 figures.d

    card_pair : (j : ℕ) → j < figures.d → pair_at (card_under D c i) j ≡ dealt_pair codes u v (value_polynomials j) (get_or c j []) i
    card_pair j l = get_or-map-range_with_len (λ j. dealt_pair codes u v (value_polynomials j) (get_or c j []) i) 0 figures.d j j blank l (zero-add j)

    pub card_value : (j : ℕ) → j < figures.d → (pair_at (card_under D c i) j).value ≡ polynomial_value codes (value_polynomials j) i
    card_value j l = ap (λ (a : Pair). a.value) (card_pair j l)

    pub card_tag : (j : ℕ) → j < figures.d
        → (pair_at (card_under D c i) j).tag ≡ polynomial_value (doubled codes u v) (get_or c j [])
        (join codes.size (polynomial_value codes (value_polynomials j) i) i)
    card_tag j l = ap (λ (a : Pair). a.tag) (card_pair j l)

    card_coded : Sound c → is_participant codes figures i ≡ true → list_all (is_coded_pair codes) (card_under D c i) ≡ true
    card_coded s m =
        every_from (is_coded_pair codes) (card_under D c i) (λ a k.
        let r = in_map_back (λ j. dealt_pair codes u v (value_polynomials j) (get_or c j []) i) (places figures) a k in
        let l = place_below figures.d r.0 r.1 in
        let w = dealt_value_below i r.0 m l in
        subst (λ (a : Pair). is_coded_pair codes a ≡ true) (sym r.2) (ap₂ ◌&&◌ (lt-ltb _ _ w)
        (lt-ltb _ _ (value_below (doubled_laws laws) (get_or c r.0 []) _ (s r.0 l).1
        (point_below laws figures i _ (participant_high codes figures i m) w)))))

    pub card_right : Sound c → is_participant codes figures i ≡ true → RightCard codes figures i (card_under D c i)
    card_right s m = (m, card_length, card_coded s m)

    -- where it is presented, only a card that lies already refuses
    pub card_refused : Sound c → (old : Option Card) → is_participant codes figures i ≡ true
        → present_refusal codes figures old i (card_under D c i) ≡ cond (not (is_some old)) None (Some 44)
    card_refused s old m =
        cond-true _ _ _ m ∙ cond-true _ _ _ (eq-eqb _ _ card_length) ∙ cond-true _ _ _ (card_coded s m)

-- the group has the same cards under two choices
pub same_cards : (D : Deal) (group : List ℕ) (b c : Choice) → Deals D group b → Deals D group c → AllByRecursion (λ i. card_under D b i ≡ card_under D c i) group
same_cards D group b c hb hc = all_with (λ i p q. p ∙ sym q) group hb.same_cards hc.same_cards
