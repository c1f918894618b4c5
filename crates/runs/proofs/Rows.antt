-- The worked example on opening, over p251: five participants, threshold four, one altered card borne, one symbol. Key 7, value
-- coefficients 1, 0, 2 and tag coefficients 5, 3.
-- Assumes nothing.
use Rattle.std.proofs.Common.{◌≡◌, ℕ, zero, suc, ◌+◌, ◌<◌, ◌≤◌, Bool, true, false, not, ◌||◌, eqb, leb, ◌⊎◌, List, [], ◌∷◌, map, length, None, Ok, Err, filter, sym, refl, ap, ◌∙◌, inl, inr, true≢false, arith, lit≤, length-append}
use Rattle.std.specs.List.{AllByRecursion, list_all}
use Rattle.std.proofs.lemmas.List.Elements.{filter-append}
use Rattle.std.proofs.ByRecursion.{All-weaker}
use Rattle.std.proofs.lemmas.Bool.{leb-true, leb-false, eqb-true, eqb-false, ltb-true, false_from_ne_true}
use Rattle.algebra.specs.Count.{In}
use Rattle.fields.specs.P251.{p251}
use Rattle.fields.specs.Doubled.{doubled, sum2, product2}
use Rattle.fields.specs.DoubledLaws.{doubled_laws}
use Rattle.fields.specs.P251Laws.{p251_doublable}
use Rattle.scheme.specs.Questions.{all_codes}
use Rattle.scheme.specs.Polynomial.{polynomial_value}
use Rattle.scheme.specs.Fitting.{passes, fits, polynomials}
use Rattle.scheme.proofs.Asking.{all_from_codes}
use Rattle.scheme.proofs.Enumerated.{CodesOf, kept_none, polynomials_are}
use Rattle.runs.specs.Cards.{Card, Cards, lying, card_refusal}
use Rattle.scheme.specs.Worked.{five}
use Rattle.runs.specs.Worked.{card, all_five, first_four, two_altered, nines, zeros}
use Rattle.runs.specs.Opening.{pair_at, tag_point, value_point, opened, FirstThree}
use Rattle.runs.proofs.Openings.{fitting_settles_lem}
use Rattle.runs.proofs.Lists.{every_in}
use Rattle.runs.proofs.Fits.{same_on, Plane}
use Rattle.runs.proofs.Tables.{RightCard, right_card}
use Rattle.runs.proofs.Opened.{refusing, opening_to, hits, misses, few_clean, many_clean, scattered}

-- the polynomial of the tags
abbrev tag_polynomials : ℕ → List ℕ
tag_polynomials _ = 5 ∷ 3 ∷ []

abbrev strays : ℕ × Card → Bool
strays = misses p251 0 250 five tag_polynomials

-- a table on which at most one card misses the tag polynomial, told by tests that compute
module _ (cards : Cards) (passing : AllByRecursion (λ (a : ℕ × Card). card_refusal p251 five a.0 a.1 ≡ None) (lying cards))
    (four : leb 4 (length (lying cards)) ≡ true)
    (fit : leb (length (lying cards)) (length (filter (hits p251 0 250 five tag_polynomials 0) (lying cards)) + 1) ≡ true)
    (key names : List ℕ) (first : FirstThree five (length (lying cards)) key names) where
  right : AllByRecursion (λ (a : ℕ × Card). RightCard p251 five a.0 a.1) (lying cards)
  right = All-weaker (λ (a : ℕ × Card). card_refusal p251 five a.0 a.1 ≡ None) _ (λ a e. right_card p251 five a.0 a.1 e)
      (lying cards) passing

  good : (j : ℕ) → j < 1 → CodesOf 63001 2 (tag_polynomials j)
  good j l = (refl, all_from_codes 63001 (5 ∷ 3 ∷ []) refl)

  most : (j : ℕ) → j < 1 → length (lying cards) ≤ length (filter (hits p251 0 250 five tag_polynomials j) (lying cards)) + 1
  most zero l = leb-true _ _ fit
  most (suc j) l = absurd (omega arith)

  abbrev named : List ℕ
  named = map (λ a. a.0) (filter strays (lying cards))

  abbrev clean : List (ℕ × Card)
  clean = filter (λ a. not (strays a)) (lying cards)

  too_few : leb 4 (length clean) ≡ false
      → opened p251 0 250 five cards key names ≡ refusing 36 named key names
  too_few few = few_clean p251_doublable five cards right (leb-true _ _ four) tag_polynomials good most key names first (leb-false _ _ few)

  module _ (h : List ℕ) (long : length h ≡ 4) (codes : all_codes 251 h ≡ true) (enough : leb 4 (length clean) ≡ true) where
    on_one : list_all (λ (a : ℕ × Card). strays a || eqb (polynomial_value p251 h a.0) (pair_at a.1 0).value) (lying cards) ≡ true
        → opened p251 0 250 five cards key names
        ≡ opening_to (length (lying cards)) named (polynomial_value p251 h 0 ∷ []) names
    on_one on =
        many_clean p251_doublable five cards right (leb-true _ _ four) tag_polynomials good most key names first (λ _. h)
        (λ j l. (long, all_from_codes 251 h codes)) honest (leb-true _ _ enough)
      where
        honest : (a : ℕ × Card) → In a (lying cards) → strays a ≡ false → (j : ℕ) → j < 1 → polynomial_value p251 h a.0 ≡ (pair_at a.1 j).value
        honest a k e zero l =
            let on_a = every_in (λ (a : ℕ × Card). strays a || eqb (polynomial_value p251 h a.0) (pair_at a.1 0).value) (lying cards) a on k in
            eqb-true _ _ (sym (ap (λ b. b || eqb (polynomial_value p251 h a.0) (pair_at a.1 0).value) e) ∙ on_a)
        honest a k e (suc j) l = absurd (omega arith)

    on_none : leb 4 (length (filter (passes p251 h) (map (value_point 0) clean))) ≡ true → list_all (passes p251 h) (map (value_point 0) clean) ≡ false
        → opened p251 0 250 five cards key names ≡ refusing 37 named key names
    on_none some not-all =
        scattered p251_doublable five cards right (leb-true _ _ four) tag_polynomials good most key names first 0 (lit≤ tt) h
        (long, all_from_codes 251 h codes) (leb-true _ _ enough) (leb-true _ _ some) not-all

-- ---- the rows; before the call the buffers hold nines

abbrev asked : (m : ℕ) → leb 4 m ≡ true → FirstThree five m (9 ∷ []) nines
asked m e = record { key_room = refl; names_room = lit≤ tt; enough = leb-true 4 m e }

pub five_open : opened p251 0 250 five (all_five 25 1586) (9 ∷ []) nines ≡ record { answer = Ok (5, 0); key = 7 ∷ []; names = 0 ∷ zeros }
unfolding sum2 product2
five_open = on_one (all_five 25 1586) (refl, (refl, (refl, (refl, (refl, tt))))) refl refl (9 ∷ []) nines (asked 5 refl)
    (7 ∷ 1 ∷ 0 ∷ 2 ∷ []) refl refl refl refl

pub five_name_two : opened p251 0 250 five (all_five 26 1586) (9 ∷ []) nines ≡ record { answer = Ok (5, 1); key = 7 ∷ []; names = 2 ∷ zeros }
unfolding sum2 product2
five_name_two = on_one (all_five 26 1586) (refl, (refl, (refl, (refl, (refl, tt))))) refl refl (9 ∷ []) nines (asked 5 refl)
    (7 ∷ 1 ∷ 0 ∷ 2 ∷ []) refl refl refl refl

pub four_name_two : opened p251 0 250 five (first_four 26 1586) (9 ∷ []) nines ≡ record { answer = Err (36, 1); key = 9 ∷ []; names = 2 ∷ zeros }
unfolding sum2 product2
four_name_two = too_few (first_four 26 1586) (refl, (refl, (refl, (refl, tt)))) refl refl (9 ∷ []) nines (asked 4 refl) refl

pub four_open_to_one : opened p251 0 250 five (first_four 26 1589) (9 ∷ []) nines ≡ record { answer = Ok (4, 0); key = 1 ∷ []; names = 0 ∷ zeros }
unfolding sum2 product2
four_open_to_one = on_one (first_four 26 1589) (refl, (refl, (refl, (refl, tt)))) refl refl (9 ∷ []) nines (asked 4 refl)
    (1 ∷ 136 ∷ 247 ∷ 128 ∷ []) refl refl refl refl

pub five_on_none : opened p251 0 250 five (all_five 26 1589) (9 ∷ []) nines ≡ record { answer = Err (37, 0); key = 9 ∷ []; names = 0 ∷ zeros }
unfolding sum2 product2
five_on_none = on_none (all_five 26 1589) (refl, (refl, (refl, (refl, (refl, tt))))) refl refl (9 ∷ []) nines (asked 5 refl)
    (1 ∷ 136 ∷ 247 ∷ 128 ∷ []) refl refl refl refl refl

-- ---- tags 789 and 1587 on cards 1 and 2: a polynomial that fits passes through three of the four points, so through those of cards 1
-- and 2 or through those of cards 3 and 4; only 6 + 3·X and only 5 + 3·X do, and neither fits

abbrev point : ℕ → ℕ → ℕ → ℕ × ℕ
point i w g = tag_point p251 0 (i, card w g)

abbrev front : List (ℕ × ℕ)
front = point 1 10 789 ∷ point 2 25 1587 ∷ []

abbrev back : List (ℕ × ℕ)
back = point 3 64 2456 ∷ point 4 139 3183 ∷ []

abbrev fits_four : List ℕ → Bool
fits_four = fits (doubled p251 0 250) (map (tag_point p251 0) (lying two_altered)) 1

-- both pass a test, or at most one is kept
both : (test : ℕ × ℕ → Bool) (a b : ℕ × ℕ) → (list_all test (a ∷ b ∷ []) ≡ true) ⊎ (length (filter test (a ∷ b ∷ [])) ≤ 1)
both test a b = grind arith

-- a polynomial of two coefficients through two points is h
through_two : (points : List (ℕ × ℕ)) → length points ≡ 2 → Plane (doubled p251 0 250) points → (g h : List ℕ) → CodesOf 63001 2 g
    → CodesOf 63001 2 h → list_all (passes (doubled p251 0 250) g) points ≡ true → list_all (passes (doubled p251 0 250) h) points ≡ true → g ≡ h
through_two points two plane g h hg hh eg eh =
    same_on (doubled_laws p251_doublable) points plane 2 g h hg hh (omega arith)
    (λ p k. eqb-true _ _ (every_in (passes (doubled p251 0 250) g) points p eg k) ∙ sym
    (eqb-true _ _ (every_in (passes (doubled p251 0 250) h) points p eh k)))

none_fits : (g : List ℕ) → CodesOf 63001 2 g → fits_four g ≡ true → ⊥
unfolding sum2 product2
none_fits g hg e = by (both (passes (doubled p251 0 250) g) _ _) (both (passes (doubled p251 0 250) g) _ _)
  where
    other : (h : List ℕ) → fits_four h ≡ false → g ≡ h → ⊥
    other h wrong same = true≢false (sym e ∙ ap fits_four same ∙ wrong)

    by : (list_all (passes (doubled p251 0 250) g) front ≡ true) ⊎ (length (filter (passes (doubled p251 0 250) g) front) ≤ 1)
        → (list_all (passes (doubled p251 0 250) g) back ≡ true) ⊎ (length (filter (passes (doubled p251 0 250) g) back) ≤ 1) → ⊥
    by (inl a) b =
        other (6 ∷ 3 ∷ []) refl (through_two front refl
        (record { apart = ((eqb-false _ _ refl, tt), (tt, tt)); below = (ltb-true _ _ refl, (ltb-true _ _ refl, tt)) })
        g (6 ∷ 3 ∷ []) hg (refl, all_from_codes 63001 (6 ∷ 3 ∷ []) refl) a refl)
    by (inr a) (inl b) =
        other (5 ∷ 3 ∷ []) refl (through_two back refl
        (record { apart = ((eqb-false _ _ refl, tt), (tt, tt)); below = (ltb-true _ _ refl, (ltb-true _ _ refl, tt)) })
        g (5 ∷ 3 ∷ []) hg (refl, all_from_codes 63001 (5 ∷ 3 ∷ []) refl) b refl)
    by (inr a) (inr b) =
        omega (
          arith,
          leb-true 3 _ e,
          ap length (filter-append (passes (doubled p251 0 250) g) front back),
          length-append (filter (passes (doubled p251 0 250) g) front) (filter (passes (doubled p251 0 250) g) back),
        )

pub four_fit_none : opened p251 0 250 five two_altered (9 ∷ []) nines ≡ record { answer = Err (34, 0); key = 9 ∷ []; names = nines }
four_fit_none =
    (fitting_settles_lem p251 0 250 p251_doublable five two_altered (record { place_each = refl; right_cards = (refl, (refl, (refl, (refl, tt)))) })
    (9 ∷ []) nines (asked 4 refl)).none_fits_refused 0 (lit≤ tt)
    (kept_none fits_four (polynomials 63001 2) (λ g k. false_from_ne_true _ (none_fits g (polynomials_are 63001 2 g k))))
