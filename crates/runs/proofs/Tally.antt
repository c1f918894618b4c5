-- How many choices deal the group its cards, and how many of those leave a card unnamed.
-- Assumes nothing.
use Rattle.std.proofs.Common.{◌≡◌, ℕ, zero, suc, ◌+◌, ◌-◌, ◌^◌, ◌<◌, true, false, cond, not, List, [], ◌∷◌, map, length, get_or, sym, ap, ◌∙◌, subst, zero-add, arith}
use Rattle.std.proofs.Math.Nat.{pow-zero}
use Rattle.std.specs.List.{range_with_len, AllByRecursion}
use Rattle.std.proofs.lemmas.List.FromFn.{length-range_with_len}
use Rattle.std.proofs.lemmas.List.{length-map}
use Rattle.std.proofs.ByRecursion.{All-get_or, All-map, All-weaker}
use Rattle.std.proofs.lemmas.Bool.{eqb-true, eqb-false, eq-eqb, not-true, not-false}
use Rattle.algebra.specs.Polynomial.{Apart}
use Rattle.algebra.specs.Count.{In, Exactly, AtEach}
use Rattle.algebra.proofs.Counting.{all_in, all_from_in, in_self, exactly_iff, exactly_each, pow_one, product_same, product_free, free, free_kept}
use Rattle.fields.specs.Doubled.{doubled, join}
use Rattle.fields.specs.DoubledLaws.{doubled_laws}
use Rattle.scheme.specs.Polynomial.{polynomial_value}
use Rattle.scheme.specs.Dealing.{places}
use Rattle.scheme.proofs.Enumerated.{CodesOf}
use Rattle.runs.specs.Cards.{Card, is_participant}
use Rattle.runs.specs.Opening.{pair_at}
use Rattle.runs.specs.Runs.{value_altered, tag_altered, altered_values}
use Rattle.runs.specs.Law.{Deal, Group, Choice, q, dealt_choice, card_under, Deals}
use Rattle.runs.proofs.Bridge.{value_below, Passing, exactly_passing}
use Rattle.runs.proofs.Lists.{none_from, none_in, map_same, place_below, in_places}
use Rattle.runs.proofs.Tables.{participant, participant_high, RightCard}
use Rattle.runs.proofs.Opened.{pair_below, point_below, point_number, point_value, apart_points}
use Rattle.runs.proofs.Dealt.{value_polynomials, dealt_value_below, dealt_deals, deals_sound, card_value, card_tag}
use Rattle.runs.proofs.Naming.{tag_right, strays}

-- ---- tuples by their places

each_from : {A : Type 0} (P : ℕ → A → Type 0) (a n : ℕ) (l : List A) (e : A) → length l ≡ n
    → ((j : ℕ) → j < n → P (a + j) (get_or l j e)) → AtEach P (range_with_len a n) l
each_from P a zero [] e h k = tt
each_from P a zero (x ∷ l) e h k = absurd (omega arith)
each_from P a (suc n) [] e h k = absurd (omega arith)
each_from P a (suc n) (x ∷ l) e h k = (
  subst (λ z. P z x) (omega arith) (k 0 (omega arith)),
  each_from P (a + 1) n l e (omega arith) (λ j m. subst (λ z. P z (get_or l j e)) (omega arith) (k (suc j) (omega arith))),
)

each_length : {A : Type 0} (P : ℕ → A → Type 0) (is : List ℕ) (l : List A) → AtEach P is l → length l ≡ length is
each_length P [] l h = grind arith
each_length P (i ∷ is) l h = grind (arith, each_length P is)

each_at : {A : Type 0} (P : ℕ → A → Type 0) (a n : ℕ) (l : List A) (e : A) → AtEach P (range_with_len a n) l
    → (j : ℕ) → j < n → P (a + j) (get_or l j e)
each_at P a zero l e h j k = absurd (omega arith)
each_at P a (suc n) [] e h j k = absurd h
each_at P a (suc n) (x ∷ l) e h zero k = subst (λ z. P z x) (omega arith) h.0
each_at P a (suc n) (x ∷ l) e h (suc j) k = subst (λ z. P z (get_or l j e)) (omega arith) (each_at P (a + 1) n l e h.1 j (omega arith))

each_all : {A : Type 0} (P : A → Type 0) (R : ℕ → A → Type 0) (is : List ℕ) (l : List A) → ((j : ℕ) (a : A) → R j a → P a)
    → AtEach R is l → AllByRecursion P l
each_all P R [] l t h = grind arith
each_all P R (i ∷ is) l t h = grind (arith, each_all P R is)

each_weaker : {A : Type 0} (P R : ℕ → A → Type 0) (is : List ℕ) (l : List A) → ((j : ℕ) (a : A) → P j a → R j a) → AtEach P is l → AtEach R is l
each_weaker P R [] l t h = grind arith
each_weaker P R (i ∷ is) l t h = grind (arith, each_weaker P R is)

all_unmap : {A B : Type 0} (P : B → Type 0) (g : A → B) (l : List A) → AllByRecursion P (map g l) → AllByRecursion (λ a. P (g a)) l
all_unmap P g [] h = tt
all_unmap P g (a ∷ l) h = (h.0, all_unmap P g l h.1)

module _ (D : Deal) (group : List ℕ) (grp : Group D.figures group) where
  open D use {codes, u, v, laws, figures}

  -- ---- the points of the group at place j

  abbrev abscissa : ℕ → ℕ → ℕ
  abscissa j i = join codes.size (polynomial_value codes (value_polynomials D j) i) i

  abbrev point : ℕ → ℕ → ℕ × ℕ
  point j i = (abscissa j i, polynomial_value (doubled codes u v) (get_or (dealt_choice D) j []) (abscissa j i))

  -- g has t + 1 coefficients and passes through them
  abbrev Keeps : ℕ → List ℕ → Type 0
  Keeps j g = CodesOf (q D) (figures.t + 1) g × AllByRecursion (λ i. polynomial_value (doubled codes u v) g (abscissa j i) ≡ (point j i).1) group

  deals_keeps : (c : Choice) → Deals D group c → AtEach Keeps (places figures) c
  deals_keeps c h =
      each_from Keeps 0 figures.d c [] h.each_place (λ j l. subst (λ z. Keeps z (get_or c j [])) (sym (zero-add j)) (
        All-get_or _ c j [] (omega (arith, h.each_place)) h.degrees,
        All-weaker (λ i. card_under D c i ≡ card_under D (dealt_choice D) i) _
            (λ i e. sym (card_tag D c i j l) ∙ ap (λ z. (pair_at z j).tag) e ∙ card_tag D (dealt_choice D) i j l) group h.same_cards,
      ))

  keeps_at : (P : ℕ → List ℕ → Type 0) (c : Choice) → AtEach P (places figures) c → (j : ℕ) → j < figures.d → P j (get_or c j [])
  keeps_at P c h j l = subst (λ z. P z (get_or c j [])) (zero-add j) (each_at P 0 figures.d c [] h j l)

  keeps_deals : (c : Choice) → AtEach Keeps (places figures) c → Deals D group c
  keeps_deals c h = record {
    each_place = each_length Keeps (places figures) c h ∙ length-range_with_len 0 figures.d;
    degrees = each_all _ Keeps (places figures) c (λ j g k. k.0) h;
    same_cards = all_from_in group (λ i m. map_same _ _ (places figures) (λ j k.
        ap (λ (w : ℕ). record { value = polynomial_value codes (value_polynomials D j) i; tag = w })
        (all_in _ group i (keeps_at Keeps c h j (place_below figures.d j k)).1 m)));
  }

  member : (i : ℕ) → In i group → is_participant codes figures i ≡ true
  member i m = let r = all_in _ group i grp.participants m in participant codes figures i r.0 r.1

  abscissa_below : (j i : ℕ) → j < figures.d → In i group → abscissa j i < q D
  abscissa_below j i l m =
      let n = member i m in point_below laws figures i _ (participant_high codes figures i n) (dealt_value_below D i j n l)

  points_below : (j : ℕ) → j < figures.d → AllByRecursion (λ (p : ℕ × ℕ). (p.0 < q D) × (p.1 < q D)) (map (point j) group)
  points_below j l =
      All-map _ (point j) group (all_from_in group (λ i m. (
        abscissa_below j i l m,
        value_below (doubled_laws laws) _ (abscissa j i) (deals_sound D group (dealt_choice D) (dealt_deals D group) j l).1 (abscissa_below j i l m),
      )))

  points_apart : (j : ℕ) → j < figures.d → Apart (λ (p : ℕ × ℕ). p.0) (map (point j) group)
  points_apart j l =
      apart_points {P = λ i. In i group} (point j) (λ i. i)
      (λ h i m n e. point_number laws figures h i _ _ (dealt_value_below D h j (member h m) l) (dealt_value_below D i j (member i n) l) e)
      group (in_self group) grp.apart

  points_length : (j : ℕ) → length (map (point j) group) ≡ figures.t
  points_length j = length-map group (point j) ∙ grp.size

  -- ---- q polynomials at each place, one coefficient being free

  -- that a polynomial of m coefficients passes through the points, in other words
  through_keeps : (j m : ℕ) → m ≡ figures.t + 1 → (g : List ℕ) → CodesOf (q D) m g × Passing (doubled_laws laws) (map (point j) group) g → Keeps j g
  through_keeps j m e g h =
      ((h.0.0 ∙ e, h.0.1), all_unmap (λ (p : ℕ × ℕ). polynomial_value (doubled codes u v) g p.0 ≡ p.1) (point j) group h.1)

  keeps_through : (j m : ℕ) → m ≡ figures.t + 1 → (g : List ℕ) → Keeps j g → CodesOf (q D) m g × Passing (doubled_laws laws) (map (point j) group) g
  keeps_through j m e g h =
      ((h.0.0 ∙ sym e, h.0.1), All-map (λ (p : ℕ × ℕ). polynomial_value (doubled codes u v) g p.0 ≡ p.1) (point j) group h.1)

  keeps_count : (j : ℕ) → j < figures.d → Exactly (q D) (Keeps j)
  keeps_count j l =
      subst (λ z. Exactly z (Keeps j)) (pow_one (q D))
      (exactly_iff (through_keeps j _ (omega (arith, points_length j))) (keeps_through j _ (omega (arith, points_length j)))
      (exactly_passing (doubled_laws laws) 1 (map (point j) group) (points_below j l) (points_apart j l)))

  pub choices_count : Exactly (q D ^ figures.d) (Deals D group)
  choices_count =
      exactly_iff keeps_deals deals_keeps
      (subst (λ z. Exactly z (AtEach Keeps (places figures)))
      (product_same (q D) (places figures) ∙ ap (λ z. q D ^ z) (length-range_with_len 0 figures.d))
      (exactly_each Keeps (λ _. q D) (places figures) (λ j k. keeps_count j (place_below figures.d j k))))

  -- ---- a card of one of the group that goes unnamed

  module _ (i : ℕ) (m : In i group) (x : Card) (right : RightCard codes figures i x) where
    abbrev dealt : Card
    dealt = card_under D (dealt_choice D) i

    -- g passes through the card's point too
    abbrev Deceived : ℕ → List ℕ → Type 0
    Deceived j g = Keeps j g × (polynomial_value (doubled codes u v) g (join codes.size (pair_at x j).value i) ≡ (pair_at x j).tag)

    stays_deceived : (c : Choice) → Deals D group c → strays D c (i, x) ≡ false → AtEach Deceived (places figures) c
    stays_deceived c h e =
        each_from Deceived 0 figures.d c [] h.each_place (λ j l. subst (λ z. Deceived z (get_or c j [])) (sym (zero-add j)) (
          keeps_at Keeps c (deals_keeps c h) j l,
          eqb-true _ _ (not-false _ (none_in (λ j. not (tag_right D c j (i, x))) (places figures) j e (in_places figures.d j l))),
        ))

    deceived_stays : (c : Choice) → AtEach Deceived (places figures) c → Deals D group c × (strays D c (i, x) ≡ false)
    deceived_stays c h = (
      keeps_deals c (each_weaker Deceived Keeps (places figures) c (λ j g k. k.0) h),
      none_from (λ j. not (tag_right D c j (i, x))) (places figures)
          (λ j k. ap not (eq-eqb _ _ (keeps_at Deceived c h j (place_below figures.d j k)).1)),
    )

    module _ (elsewhere : (j : ℕ) → j < figures.d → value_altered dealt x j ≡ false → tag_altered dealt x j ≡ false) where
      -- a value as dealt beside its tag as dealt asks nothing more
      count_at_dealt : (j : ℕ) → j < figures.d → value_altered dealt x j ≡ false → Exactly (q D) (Deceived j)
      count_at_dealt j l e =
          exactly_iff
          (λ g h. (
            h,
            ap (λ w. polynomial_value (doubled codes u v) g (join codes.size w i)) (eqb-true _ _ (not-false _ e) ∙ card_value D (dealt_choice D) i j l)
                ∙ all_in _ group i h.1 m ∙ sym (card_tag D (dealt_choice D) i j l) ∙ sym (eqb-true _ _ (not-false _ (elsewhere j l e))),
          ))
          (λ g h. h.0) (keeps_count j l)

      -- an altered value is one point more, and leaves one polynomial
      count_at_altered : (j : ℕ) → j < figures.d → value_altered dealt x j ≡ true → Exactly 1 (Deceived j)
      count_at_altered j l e =
          let here = pair_below laws figures x right.2 j (omega (arith, right.1)) in
          let z = join codes.size (pair_at x j).value i in
          let zb : z < q D = point_below laws figures i _ (participant_high codes figures i right.0) here.0 in
          let off : AllByRecursion (λ (p : ℕ × ℕ). p.0 ≡ z → ⊥) (map (point j) group) =
          All-map _ (point j) group (all_from_in group (λ h k s.
          let below = dealt_value_below D h j (member h k) l in
          eqb-false _ _ (not-true _ e) (sym (point_value laws figures h i _ _ below here.0 s)
          ∙ ap (polynomial_value codes (value_polynomials D j)) (point_number laws figures h i _ _ below here.0 s) ∙ sym
          (card_value D (dealt_choice D) i j l)))) in
          let long : 0 + suc (length (map (point j) group)) ≡ figures.t + 1 = omega (arith, points_length j) in
          subst (λ w. Exactly w (Deceived j)) (pow-zero (q D))
          (exactly_iff
          (λ g h. (through_keeps j _ long g (h.0, h.1.1), h.1.0))
          (λ g h. let r = keeps_through j _ long g h.0 in (r.0, (h.1, r.1)))
          (exactly_passing (doubled_laws laws) 0 ((z, (pair_at x j).tag) ∷ map (point j) group) ((zb, here.1), points_below j l)
          (off, points_apart j l)))

      count_at : (j : ℕ) → j < figures.d → Exactly (cond (value_altered dealt x j) 1 (q D)) (Deceived j)
      count_at j l = grind (arith, count_at_altered j l, count_at_dealt j l)

      pub unnamed_count : Exactly (q D ^ (figures.d - altered_values figures dealt x)) (λ c. Deals D group c × (strays D c (i, x) ≡ false))
      unnamed_count =
          let fixed = value_altered dealt x in
          let count : free fixed (places figures) ≡ figures.d - altered_values figures dealt x =
          omega (arith, free_kept fixed (places figures), length-range_with_len 0 figures.d) in
          exactly_iff deceived_stays (λ c h. stays_deceived c h.0 h.1)
          (subst (λ z. Exactly z (AtEach Deceived (places figures))) (product_free (q D) fixed (places figures) ∙ ap (λ z. q D ^ z) count)
          (exactly_each Deceived (λ j. cond (fixed j) 1 (q D)) (places figures) (λ j k. count_at j (place_below figures.d j k))))
