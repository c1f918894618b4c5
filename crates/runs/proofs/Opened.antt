-- What open finds on a table, where at each place at most t lying cards miss one given polynomial.
-- Assumes nothing.
use Rattle.std.proofs.Common.{◌≡◌, ℕ, suc, ◌+◌, ◌-◌, ◌*◌, ◌/◌, ◌%◌, ◌<◌, ◌≤◌, Bool, true, false, not, leb, List, [], ◌∷◌, ◌++◌, map, length, get_or, replicate, Some, None, Ok, Err, filter, Option, sym, ap, ◌∙◌, subst, ap₂, true≢false, arith}
use Rattle.scheme.proofs.Acceptance.{no_refusal}
use Rattle.std.specs.List.{AllByRecursion, list_all, list_any}
use Rattle.std.proofs.Math.Seq.{take-append_seam}
use Rattle.std.proofs.lemmas.List.{length-map, get_or_past}
use Rattle.std.proofs.lemmas.List.Elements.{filter_agree}
use Rattle.std.proofs.ByRecursion.{All-get_or, all_kept_by, All-map, All-weaker}
use Rattle.std.proofs.lemmas.Bool.{le-leb, eq-eqb, lt-leb, ltb-true, and_parts, not-true, cond-false, eqb-true, cond-true, false_from_ne_true}
use Rattle.algebra.specs.Polynomial.{Apart}
use Rattle.algebra.specs.Count.{In}
use Rattle.algebra.proofs.Counting.{all_with, in_map_back}
use Rattle.fields.specs.Laws.{Codes, DoublableLaws}
use Rattle.fields.specs.Doubled.{doubled, join}
use Rattle.fields.specs.Elements.{zero_below}
use Rattle.fields.specs.DoubledLaws.{doubled_laws, join_low, join_high, join_below}
use Rattle.scheme.specs.Questions.{first_no}
use Rattle.scheme.specs.Polynomial.{polynomial_value}
use Rattle.scheme.specs.Fitting.{polynomials, passes, agreements}
use Rattle.scheme.specs.Dealing.{places}
use Rattle.scheme.specs.declared.types.Figures.{Figures}
use Rattle.scheme.specs.declared.types.Pair.{Pair}
use Rattle.scheme.proofs.Asking.{all_from_every}
use Rattle.scheme.proofs.Enumerated.{kept_none, CodesOf, polynomials_are}
use Rattle.runs.specs.Cards.{blank, Card, Cards, lying, is_coded_pair}
use Rattle.runs.specs.Opening.{Opening, pair_at, tag_point, value_point, fitting_at, is_named, named, unnamed, value_curves, early_questions, late_questions, new_key, concluded, opened, FirstThree}
use Rattle.runs.specs.Runs.{written}
use Rattle.runs.proofs.Lists.{every_from, kept_in, apart_kept, kept_map, some_same, map_same, place_below, every_in, not_every, in_places}
use Rattle.runs.proofs.Fits.{Plane, plane_kept, same_on, fitting_few, fitting_is, through_is}
use Rattle.runs.proofs.Collected.{number, lying_apart}
use Rattle.runs.proofs.Tables.{RightCard, participant_high}

-- points with distinct abscissae
pub apart_points : {A : Type 0} {P : A → Type 0} (p : A → ℕ × ℕ) (x : A → ℕ) → ((a b : A) → P a → P b → (p a).0 ≡ (p b).0 → x a ≡ x b)
    → (l : List A) → AllByRecursion P l → Apart x l → Apart (λ (z : ℕ × ℕ). z.0) (map p l)
apart_points p x inj [] h d = tt
apart_points p x inj (a ∷ l) h d = (
  All-map _ p l (all_with (λ b n pb e. n (inj b a pb h.0 e)) l d.0 h.1),
  apart_points p x inj l h.1 d.1,
)

-- what open answers and leaves where it names the numbers l: the refusal e, or, where m cards lie, the key
abbrev pub refusing : ℕ → List ℕ → List ℕ → List ℕ → Opening
refusing e l key names = record { answer = Err (e, length l); key = key; names = l ++ replicate (length names - length l) 0 }

abbrev pub opening_to : ℕ → List ℕ → List ℕ → List ℕ → Opening
opening_to m l key names = record { answer = Ok (m, length l); key = key; names = l ++ replicate (length names - length l) 0 }

-- by a polynomial G j for each place j
module _ (C : Codes) (u v : ℕ) (f : Figures) (G : ℕ → List ℕ) where
  -- a card has the value of G j at its point as its tag
  abbrev pub hits : ℕ → ℕ × Card → Bool
  hits j a = passes (doubled C u v) (G j) (tag_point C j a)

  -- at some place it has not
  abbrev pub misses : ℕ × Card → Bool
  misses a = list_any (λ j. not (hits j a)) (places f)

module _ {C : Codes} {u v : ℕ} (L : DoublableLaws C u v) (f : Figures) where
  -- ---- codes and points

  pub small : (i : ℕ) → i ≤ f.n → i < C.size
  small i h = let l : 33 ≤ C.size = L.on_codes.at_least_33 in let m : f.n ≤ 32 = f.participants.1 in omega arith

  pub pair_below : (card : Card) → list_all (is_coded_pair C) card ≡ true → (j : ℕ) → j < length card
      → ((pair_at card j).value < C.size) × ((pair_at card j).tag < C.size * C.size)
  pair_below card e j h =
      let r = and_parts _ _ (All-get_or (λ (a : Pair). is_coded_pair C a ≡ true) card j blank h (all_from_every (is_coded_pair C) _ (λ a t. t) card e)) in
      (ltb-true _ _ r.0, ltb-true _ _ r.1)

  pub pair_value_below : (card : Card) → list_all (is_coded_pair C) card ≡ true → (j : ℕ) → (pair_at card j).value < C.size
  pair_value_below card e j = grind (arith, pair_below card e j, get_or_past card j blank, zero_below L.on_codes)

  -- the abscissa value + i·y tells the value and i
  pub point_below : (i w : ℕ) → i ≤ f.n → w < C.size → join C.size w i < C.size * C.size
  point_below i w h k = join_below C.size w i k (small i h)

  pub point_number : (i h w x : ℕ) → w < C.size → x < C.size → join C.size w i ≡ join C.size x h → i ≡ h
  point_number i h w x a b e = sym (join_high C.size w i a) ∙ ap (λ z. z / C.size) e ∙ join_high C.size x h b

  pub point_value : (i h w x : ℕ) → w < C.size → x < C.size → join C.size w i ≡ join C.size x h → w ≡ x
  point_value i h w x a b e = sym (join_low C.size w i a) ∙ ap (λ z. z % C.size) e ∙ join_low C.size x h b

  abbrev Right : ℕ × Card → Type 0
  Right a = RightCard C f a.0 a.1

  module _ (cards : Cards) (right : AllByRecursion Right (lying cards)) where
    tag_plane : (j : ℕ) → Plane (doubled C u v) (map (tag_point C j) (lying cards))
    tag_plane j = record {
      apart = apart_points (tag_point C j) number
          (λ a b p q e. point_number a.0 b.0 _ _ (pair_value_below a.1 p.2 j) (pair_value_below b.1 q.2 j) e)
          (lying cards) right (lying_apart cards);
      below = All-map _ (tag_point C j) (lying cards)
          (All-weaker Right _ (λ a p. point_below a.0 _ (participant_high C f a.0 p.0) (pair_value_below a.1 p.2 j))
          (lying cards) right);
    }

    value_plane : (test : ℕ × Card → Bool) (j : ℕ) → Plane C (map (value_point j) (filter test (lying cards)))
    value_plane test j =
        let l = filter test (lying cards) in
        let r : AllByRecursion Right l = all_kept_by test Right (lying cards) right in
        record {
          apart = apart_points (value_point j) number (λ a b p q e. e) l r (apart_kept test number (lying cards) (lying_apart cards));
          below = All-map _ (value_point j) l (All-weaker Right _ (λ a p. small a.0 (participant_high C f a.0 p.0)) l r);
        }

    module _ (enough : f.k ≤ length (lying cards)) where
      points_enough : (j : ℕ) → 3 * f.t + 1 ≤ length (map (tag_point C j) (lying cards))
      points_enough j = let a : 3 * f.t + 1 ≤ f.k = f.altered in omega (arith, length-map (lying cards) (tag_point C j))

      -- at most one polynomial fits at a place
      pub fitting_at_few : (j : ℕ) → length (fitting_at C u v f cards j) ≤ 1
      fitting_at_few j = fitting_few (doubled_laws L) (map (tag_point C j) (lying cards)) (tag_plane j) f.t (points_enough j)

      -- ---- G j misses at most t lying cards at place j

      module _ (G : ℕ → List ℕ) (good : (j : ℕ) → j < f.d → CodesOf (C.size * C.size) (suc f.t) (G j))
          (most : (j : ℕ) → j < f.d → length (lying cards) ≤ length (filter (hits C u v f G j) (lying cards)) + f.t) where
        fitting_at_is : (j : ℕ) → j < f.d → fitting_at C u v f cards j ≡ G j ∷ []
        fitting_at_is j h =
            let points = map (tag_point C j) (lying cards) in
            let same : agreements (doubled C u v) points (G j) ≡ length (filter (hits C u v f G j) (lying cards)) =
            ap length (kept_map (passes (doubled C u v) (G j)) (tag_point C j) (lying cards)) ∙ length-map
            (filter (hits C u v f G j) (lying cards)) (tag_point C j) in
            fitting_is (doubled_laws L) points (tag_plane j) f.t (points_enough j) (G j) (good j h)
            (omega (arith, same, most j h, length-map (lying cards) (tag_point C j)))

        named_is : (a : ℕ × Card) → is_named C u v f cards a ≡ misses C u v f G a
        named_is a =
            some_same _ _ (places f)
            (λ j k. ap (λ g. not (passes (doubled C u v) (get_or g 0 []) (tag_point C j a))) (fitting_at_is j (place_below f.d j k)))

        -- the numbers of the cards that miss, and the cards that do not
        abbrev pub missing : List ℕ
        missing = map number (filter (misses C u v f G) (lying cards))

        abbrev pub clean : List (ℕ × Card)
        clean = filter (λ a. not (misses C u v f G a)) (lying cards)

        named_numbers : named C u v f cards ≡ missing
        named_numbers = ap (map number) (filter_agree _ _ named_is (lying cards))

        unnamed_is : unnamed C u v f cards ≡ clean
        unnamed_is = filter_agree _ _ (λ a. ap not (named_is a)) (lying cards)

        module _ (key names : List ℕ) (first : FirstThree f (length (lying cards)) key names) where
          no_early : first_no (early_questions C u v f cards key names) ≡ None
          no_early =
              no_refusal (early_questions C u v f cards key names) (
                eq-eqb _ _ first.key_room,
                (
                  le-leb _ _ first.names_room,
                  (
                    le-leb _ _ enough,
                    (
                      every_from _ (places f) (λ j k. le-leb 1 (length (fitting_at C u v f cards j))
                          (omega (arith, ap length (fitting_at_is j (place_below f.d j k))))),
                      (every_from _ (places f) (λ j k. le-leb (length (fitting_at C u v f cards j)) 1 (fitting_at_few j)), tt),
                    ),
                  ),
                ),
              )

          pub written_is : written (opened C u v f cards key names) ≡ missing
          written_is =
              ap (λ o. written (concluded C u v f cards o (first_no (late_questions C u v f cards)) key names)) no_early
              ∙ by (first_no (late_questions C u v f cards)) ∙ named_numbers
            where
              by : (o : Option ℕ) → written (concluded C u v f cards None o key names) ≡ named C u v f cards
              by None = take-append_seam (named C u v f cards) _
              by (Some e) = take-append_seam (named C u v f cards) _

          -- the late questions refuse with e
          refused : (e : ℕ) → first_no (late_questions C u v f cards) ≡ Some e
              → opened C u v f cards key names ≡ refusing e missing key names
          refused e late =
              ap₂ (λ o p. concluded C u v f cards o p key names) no_early late
              ∙ ap (λ l. refusing e l key names) named_numbers

          pub few_clean : length clean < f.k
              → opened C u v f cards key names ≡ refusing 36 missing key names
          few_clean few = refused 36 (cond-false _ _ _ (lt-leb f.k (length (unnamed C u v f cards)) (omega (arith, ap length unnamed_is))))

          -- h passes through k of the clean values of place j and not through all, so that these lie on no one polynomial
          pub scattered : (j : ℕ) → j < f.d → (h : List ℕ) → CodesOf C.size f.k h → f.k ≤ length clean
              → f.k ≤ length (filter (passes C h) (map (value_point j) clean)) → list_all (passes C h) (map (value_point j) clean) ≡ false
              → opened C u v f cards key names ≡ refusing 37 missing key names
          scattered j l h hh many on not-all =
              refused 37 (cond-true _ _ _ (le-leb f.k (length (unnamed C u v f cards)) (omega (arith, ap length unnamed_is)))
              ∙ cond-false _ _ _ (not_every (λ j. leb 1 (length (value_curves C u v f cards j))) (places f) j (in_places f.d j l)
              (ap (λ z. leb 1 (length z)) none)))
            where
              points : List (ℕ × ℕ)
              points = map (value_point j) clean

              only : (g : List ℕ) → CodesOf C.size f.k g → list_all (passes C g) points ≡ true → g ≡ h
              only g hg e =
                  same_on L.on_codes (filter (passes C h) points)
                  (plane_kept (passes C h) (value_plane (λ a. not (misses C u v f G a)) j)) f.k g h hg hh on
                  (λ p k. let r = kept_in (passes C h) points p k in eqb-true _ _ (every_in (passes C g) points p e r.0) ∙ sym
                  (eqb-true _ _ r.1))

              off : (g : List ℕ) → CodesOf C.size f.k g → list_all (passes C g) points ≡ false
              off g hg =
                  false_from_ne_true _ (λ e. true≢false (sym (ap (λ z. list_all (passes C z) points) (sym (only g hg e)) ∙ e) ∙ not-all))

              none : value_curves C u v f cards j ≡ []
              none =
                  ap (λ z. filter (λ g. list_all (passes C g) (map (value_point j) z)) (polynomials C.size f.k)) unnamed_is
                  ∙ kept_none _ (polynomials C.size f.k) (λ g k. off g (polynomials_are _ _ g k))

          module _ (F : ℕ → List ℕ) (goodF : (j : ℕ) → j < f.d → CodesOf C.size f.k (F j))
              (on : (a : ℕ × Card) → In a (lying cards) → misses C u v f G a ≡ false → (j : ℕ) → j < f.d → polynomial_value C (F j) a.0 ≡ (pair_at
              a.1 j).value)
              (many : f.k ≤ length clean) where
            curves_are : (j : ℕ) → j < f.d → value_curves C u v f cards j ≡ F j ∷ []
            curves_are j h =
                ap (λ l. filter (λ g. list_all (passes C g) (map (value_point j) l)) (polynomials C.size f.k)) unnamed_is
                ∙ through_is L.on_codes (map (value_point j) clean) (value_plane (λ a. not (misses C u v f G a)) j) f.k
                (omega (arith, length-map clean (value_point j))) (F j) (goodF j h)
                (every_from (passes C (F j)) (map (value_point j) clean) (λ p k.
                let r = in_map_back (value_point j) clean p k in
                let s = kept_in (λ a. not (misses C u v f G a)) (lying cards) r.0 r.1 in
                subst (λ p. passes C (F j) p ≡ true) (sym r.2) (eq-eqb _ _ (on r.0 s.0 (not-true (misses C u v f G r.0) s.1) j h))))

            pub many_clean : opened C u v f cards key names
                ≡ opening_to (length (lying cards)) missing (map (λ j. polynomial_value C (F j) 0) (places f)) names
            many_clean =
                ap₂ (λ o p. concluded C u v f cards o p key names) no_early late
                ∙ ap₂ (λ l k. opening_to (length (lying cards)) l k names) named_numbers key_is
              where
                late : first_no (late_questions C u v f cards) ≡ None
                late =
                    no_refusal (late_questions C u v f cards) (
                      le-leb f.k (length (unnamed C u v f cards)) (omega (arith, ap length unnamed_is)),
                      (
                        every_from _ (places f) (λ j k. le-leb 1 (length (value_curves C u v f cards j))
                            (omega (arith, ap length (curves_are j (place_below f.d j k))))),
                        tt,
                      ),
                    )

                key_is : new_key C u v f cards ≡ map (λ j. polynomial_value C (F j) 0) (places f)
                key_is = map_same _ _ (places f) (λ j k. ap (λ g. polynomial_value C (get_or g 0 []) 0) (curves_are j (place_below f.d j k)))
