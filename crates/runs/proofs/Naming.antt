-- Which cards an open names under a choice that deals the group its cards: those that miss a tag polynomial of the choice.
-- Assumes nothing.
use Rattle.std.proofs.Common.{◌≡◌, ℕ, ◌+◌, ◌<◌, ◌≤◌, Bool, true, false, not, ◌||◌, ◌⊎◌, List, [], map, length, get_or, Some, filter, sym, refl, ap, ◌∙◌, subst, ap₂, inl, inr, true≢false, arith}
use Rattle.std.specs.List.{AllByRecursion}
use Rattle.std.proofs.lemmas.List.{length-map}
use Rattle.std.proofs.lemmas.List.Filters.{length-filter_both}
use Rattle.std.proofs.ByRecursion.{All-map}
use Rattle.std.proofs.lemmas.Bool.{eqb-true, eqb-false, eq-eqb, not-true, not-false, or_parts, not_from_false, false_from_ne_true}
use Rattle.std.proofs.lemmas.Option.{same_Some}
use Rattle.algebra.specs.Count.{In}
use Rattle.algebra.proofs.Counting.{all_from_in, in_map, in_map_back, at_most}
use Rattle.fields.specs.Doubled.{doubled, join}
use Rattle.scheme.specs.Polynomial.{polynomial_value}
use Rattle.scheme.specs.Dealing.{places}
use Rattle.runs.specs.Cards.{Card, Cards, lying}
use Rattle.runs.specs.Opening.{pair_at, FirstThree}
use Rattle.runs.specs.Runs.{Run, Each, table, written, lies, value_altered, tag_altered, altered}
use Rattle.runs.specs.Law.{Deal, Group, Choice, Move, Permitted, card_under, calls, opening, Passes, Names, Lies, Deals}
use Rattle.runs.proofs.Lists.{some_from, none_from, none_in, in_kept, kept_in, apart_kept, distinct_images, place_below, in_places}
use Rattle.runs.proofs.Collected.{number, lying_apart}
use Rattle.runs.proofs.Tables.{RightCard, lies_right, lying_lies, lies_lying, lying_length}
use Rattle.runs.proofs.Opened.{hits, misses, written_is}
use Rattle.runs.proofs.Dealt.{deals_sound, card_value, card_tag}
use Rattle.runs.proofs.Likeness.{lying_kinds}

-- ---- a card beside the tag polynomials of a choice

module _ (D : Deal) (c : Choice) where
  open D use {codes, u, v, figures}

  -- at place j the tag is right; at some place it is not
  abbrev pub tag_right : ℕ → ℕ × Card → Bool
  tag_right = hits codes u v figures (λ j. get_or c j [])

  abbrev pub strays : ℕ × Card → Bool
  strays = misses codes u v figures (λ j. get_or c j [])

  module _ (i : ℕ) (x : Card) where
    abbrev dealt : Card
    dealt = card_under D c i

    -- beside a value as dealt, the right tag is the one as dealt
    right_tag : (j : ℕ) → j < figures.d → value_altered dealt x j ≡ false
        → polynomial_value (doubled codes u v) (get_or c j []) (join codes.size (pair_at x j).value i) ≡ (pair_at dealt j).tag
    right_tag j l e =
        ap (λ w. polynomial_value (doubled codes u v) (get_or c j []) (join codes.size w i)) (eqb-true _ _ (not-false _ e) ∙ card_value D c i j l)
        ∙ sym (card_tag D c i j l)

    pub dealt_tag_right : (j : ℕ) → j < figures.d → value_altered dealt x j ≡ false → tag_altered dealt x j ≡ false → tag_right j (i, x) ≡ true
    dealt_tag_right j l p r = eq-eqb _ _ (right_tag j l p ∙ sym (eqb-true _ _ (not-false _ r)))

    pub altered_tag_wrong : (j : ℕ) → j < figures.d → value_altered dealt x j ≡ false → tag_altered dealt x j ≡ true → tag_right j (i, x) ≡ true → ⊥
    altered_tag_wrong j l p r e = eqb-false _ _ (not-true _ r) (sym (eqb-true _ _ e) ∙ right_tag j l p)

    -- the parts of a card that is not altered
    pub unaltered_parts : altered figures dealt x ≡ false → (j : ℕ) → j < figures.d
        → (value_altered dealt x j ≡ false) × (tag_altered dealt x j ≡ false)
    unaltered_parts e j l =
        or_parts _ _ (none_in (λ j. value_altered dealt x j || tag_altered dealt x j) (places figures) j e (in_places figures.d j l))

    pub unaltered_stays : altered figures dealt x ≡ false → strays (i, x) ≡ false
    unaltered_stays e =
        none_from _ (places figures) (λ j k.
        let l = place_below figures.d j k in let r = unaltered_parts e j l in ap not (dealt_tag_right j l r.0 r.1))

    pub altered_tag_strays : (j : ℕ) → j < figures.d → value_altered dealt x j ≡ false → tag_altered dealt x j ≡ true → strays (i, x) ≡ true
    altered_tag_strays j l p r = some_from _ (places figures) j (in_places figures.d j l) (not_from_false _ (false_from_ne_true _ (altered_tag_wrong j l p r)))

-- ---- the table after a script

module _ (D : Deal) (group : List ℕ) (grp : Group D.figures group) (c : Choice) (hc : Deals D group c) (past : Run Move)
    (permitted : Each (Permitted D.codes D.figures group) past) where
  open D use {codes, u, v, laws, figures}

  abbrev pub cards : Cards
  cards = table codes u v figures (calls D c past)

  pub all_right : AllByRecursion (λ (a : ℕ × Card). RightCard codes figures a.0 a.1) (lying cards)
  all_right =
      all_from_in (lying cards) (λ a k. lies_right codes figures (calls D c past) a.0 a.1 (lying_lies codes figures u v (calls D c past) a k))

  -- only the group's cards can miss, and they are t
  pub most : (j : ℕ) → j < figures.d → length (lying cards) ≤ length (filter (tag_right D c j) (lying cards)) + figures.t
  most j l =
      let wrong = filter (λ a. not (tag_right D c j a)) (lying cards) in
      let few : length (map number wrong) ≤ length group =
      at_most (map number wrong) group
      (distinct_images number wrong (apart_kept (λ a. not (tag_right D c j a)) number (lying cards) (lying_apart cards)))
      (All-map (λ i. In i group) number wrong (all_from_in wrong (λ a k.
      let r = kept_in (λ a. not (tag_right D c j a)) (lying cards) a k in
      member a (not-true _ r.1) (lying_kinds D group c hc past permitted a.0 a.1
      (lying_lies codes figures u v (calls D c past) a r.0))))) in
      omega (
        arith,
        length-filter_both (tag_right D c j) (λ a. not (tag_right D c j a)) (λ _. refl)
            (lying cards),
        few,
        length-map wrong number,
        grp.size,
      )
    where
      member : (a : ℕ × Card) → tag_right D c j a ≡ false → In a.0 group ⊎ (a.1 ≡ card_under D c a.0) → In a.0 group
      member a e (inl k) = k
      member a e (inr z) =
          absurd (true≢false (sym (dealt_tag_right D c a.0 a.1 j l (ap not (eq-eqb _ _ (ap (λ x. (pair_at x j).value) z)))
          (ap not (eq-eqb _ _ (ap (λ x. (pair_at x j).tag) z)))) ∙ e))

  module _ (buffer names : List ℕ) (pass : Passes D c past buffer names) where
    pub first_three : FirstThree figures (length (lying cards)) buffer names
    first_three = record {
      key_room = pass.key_room;
      names_room = pass.names_room;
      enough = let h = pass.enough in omega (arith, lying_length codes figures u v (calls D c past));
    }

    -- the numbers written are those of the lying cards that stray
    pub written_strays : written (opening D c past buffer names) ≡ map number (filter (strays D c) (lying cards))
    written_strays =
        written_is laws figures cards all_right first_three.enough (λ j. get_or c j []) (deals_sound D group c hc) most buffer names first_three

    pub named_strays : (i : ℕ) (x : Card) → Lies D c past i x → Names D c past buffer names i → strays D c (i, x) ≡ true
    named_strays i x e k =
        let r = in_map_back number (filter (strays D c) (lying cards)) i (subst (In i) written_strays k) in
        let s = kept_in (strays D c) (lying cards) r.0 r.1 in
        let y : Some r.0.1 ≡ Some x =
        sym (lying_lies codes figures u v (calls D c past) r.0 s.0) ∙ ap (lies codes figures (calls D c past)) (sym r.2) ∙ e in
        let z : ◌≡◌ {A = ℕ × Card} (i, x) r.0 = ap₂ {C = ℕ × Card} (λ a b. (a, b)) r.2 (sym (same_Some r.0.1 x y)) in
        ap (strays D c) z ∙ s.1

    pub strays_named : (i : ℕ) (x : Card) → Lies D c past i x → strays D c (i, x) ≡ true → Names D c past buffer names i
    strays_named i x e k =
        subst (In i) (sym written_strays) (in_map number (filter (strays D c) (lying cards)) (i, x)
        (in_kept (strays D c) (lying cards) (i, x) (lies_lying codes figures u v (calls D c past) i x e) k))
