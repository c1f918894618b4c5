-- The choices under which some accepted altered card would go unnamed: few for each such card.
-- Assumes nothing.
use Rattle.std.proofs.Common.{◌≡◌, ℕ, ◌+◌, ◌-◌, ◌*◌, ◌^◌, ◌<◌, ◌≤◌, Bool, true, false, cond, not, ◌&&◌, ◌||◌, eqb, ◌⊎◌, List, [], ◌∷◌, ◌++◌, length, Some, filter, sym, refl, ap, ◌∙◌, subst, ap₂, inl, inr, ⊎_elim, true≢false, arith, length-append}
use Rattle.std.specs.List.{list_any}
use Rattle.std.proofs.Math.Nat.{pow-le-pow_right}
use Rattle.std.proofs.lemmas.Bool.{and_from, and_parts, not-true, cases_Bool}
use Rattle.std.proofs.lemmas.Option.{none-some}
use Rattle.algebra.specs.Count.{In, Exactly}
use Rattle.algebra.proofs.Counting.{all_in, in_left, in_right}
use Rattle.fields.specs.DoubledLaws.{doubled_laws}
use Rattle.scheme.specs.Dealing.{places}
use Rattle.runs.specs.Cards.{Card}
use Rattle.runs.specs.Runs.{Run, start, ◌then◌, Each, Beginning, present, withdraw, seal, reopen, opens, present_accepted, lies, value_altered, tag_altered, altered, altered_values}
use Rattle.runs.specs.Law.{Deal, Group, Choice, Move, as_dealt, just, Permitted, q, dealt_choice, card_under, calls, Lies, Deals, forgeries}
use Rattle.runs.proofs.Lists.{some_in, none_in, in_kept, place_below, in_places}
use Rattle.runs.proofs.Beginnings.{whole}
use Rattle.runs.proofs.Tables.{after_present, RightCard, accepted_right}
use Rattle.runs.proofs.Likeness.{itself_unaltered}
use Rattle.runs.proofs.Naming.{strays, altered_tag_strays}
use Rattle.runs.proofs.Tally.{unnamed_count}

in_some : {A : Type 0} (l : List A) (a : A) → In a l → 1 ≤ length l
in_some [] a k = absurd k
in_some (b ∷ l) a k = omega arith

more : (b : Bool) (w z n : ℕ) → n ≤ w * z → n ≤ (cond b 1 0 + w) * z
more b w z n h = grind arith

one_more : (b : Bool) (w z n m : ℕ) → b ≡ true → m ≤ z → n ≤ w * z → m + n ≤ (cond b 1 0 + w) * z
one_more b w z n m e k h = grind arith

module _ (D : Deal) (group : List ℕ) (grp : Group D.figures group) where
  open D use {codes, u, v, laws, figures}

  abbrev dealt : ℕ → Card
  dealt = card_under D (dealt_choice D)

  abbrev bound : ℕ
  bound = q D ^ (figures.d - 1)

  -- the choices in the list are all that leave the card unnamed
  abbrev Catches : List Choice → ℕ → Card → Type 0
  Catches l i x = (c : Choice) → Deals D group c → strays D c (i, x) ≡ false → In c l

  -- ---- one altered card

  one_card : (i : ℕ) (x : Card) → In i group → RightCard codes figures i x → altered figures (dealt i) x ≡ true
      → (l : List Choice) × (length l ≤ bound) × Catches l i x
  one_card i x m right a = by (cases_Bool (list_any bad (places figures)))
    where
      va : ℕ → Bool
      va = value_altered (dealt i) x

      ta : ℕ → Bool
      ta = tag_altered (dealt i) x

      -- an altered tag beside a value as dealt
      bad : ℕ → Bool
      bad j = not (va j) && ta j

      never : (j : ℕ) → In j (places figures) → bad j ≡ true → Catches [] i x
      never j k e c h s =
          let p = and_parts (not (va j)) (ta j) e in
          let same = sym (all_in _ group i h.same_cards m) in
          true≢false (sym (altered_tag_strays D c i x j (place_below figures.d j k)
          (ap (λ z. value_altered z x j) (sym same) ∙ not-true _ p.0) (ap (λ z. tag_altered z x j) (sym same) ∙ p.1)) ∙ s)

      by : (list_any bad (places figures) ≡ true) ⊎ (list_any bad (places figures) ≡ false) → (l : List Choice) × (length l ≤ bound) × Catches l i x
      by (inl e) = let r = some_in bad (places figures) e in ([], omega arith, never r.0 r.1 r.2)
      by (inr e) = (
        count.list,
        subst (λ z. z ≤ bound) (sym count.count) (pow-le-pow_right q_positive (let r = values in omega arith)),
        λ c h s. count.complete c (h, s),
      )
        where
          elsewhere : (j : ℕ) → j < figures.d → va j ≡ false → ta j ≡ false
          elsewhere j l e2 = grind (arith, none_in bad (places figures) j e (in_places figures.d j l))

          values : 1 ≤ altered_values figures (dealt i) x
          values =
              let r = some_in (λ j. va j || ta j) (places figures) a in
              in_some (filter va (places figures)) r.0 (in_kept va (places figures) r.0 r.1
              (grind (arith, r.2, elsewhere r.0 (place_below figures.d r.0 r.1))))

          q_positive : 0 < q D
          q_positive = let l : 33 ≤ q D = (doubled_laws laws).at_least_33 in omega arith

          count : Exactly (q D ^ (figures.d - altered_values figures (dealt i) x)) (λ c. Deals D group c × (strays D c (i, x) ≡ false))
          count = unnamed_count D group grp i m x right elsewhere

  -- ---- all altered cards that lie at some time

  abbrev pub Covers : List Choice → Run Move → Type 0
  Covers l script =
      (past : Run Move) → Beginning past script → (i : ℕ) (x : Card) → Lies D (dealt_choice D) past i x → altered figures (dealt i) x ≡ true
      → Catches l i x

  -- it suffices to look at what lies after the last move
  extend : (l k : List Choice) (past : Run Move) (m : Move) → ((c : Choice) → In c k → In c l) → Covers k past
      → ((i : ℕ) (x : Card) → Lies D (dealt_choice D) (past then m) i x → altered figures (dealt i) x ≡ true → Catches l i x)
      → Covers l (past then m)
  extend l k past m sub before now p (inl e) i x h a c d s = now i x (ap (λ z. lies codes figures (calls D (dealt_choice D) z) i) (sym e) ∙ h) a c d s
  extend l k past m sub before now p (inr e) i x h a c d s = sub c (before p e i x h a c d s)

  abbrev pub Exceptional : Run Move → Type 0
  Exceptional script = (l : List Choice) × (length l ≤ forgeries D (dealt_choice D) script * bound) × Covers l script

  -- no other altered card lies
  same_cover : (past : Run Move) (m : Move) (n : ℕ) (ih : Exceptional past) → length ih.0 ≤ n
      → ((i : ℕ) (x : Card) → Lies D (dealt_choice D) (past then m) i x → altered figures (dealt i) x ≡ true → Lies D (dealt_choice D) past i x)
      → (l : List Choice) × (length l ≤ n) × Covers l (past then m)
  same_cover past m n ih few now =
      (ih.0, few, extend ih.0 ih.0 past m (λ c k. k) ih.2 (λ i x h a. ih.2 past (whole past) i x (now i x h a) a))

  -- an accepted present of a card that is not altered leaves no other altered card
  present_old : (h : ℕ) (y : Card) (accepted : Bool) (past : Run Move) → (accepted ≡ true → altered figures (dealt h) y ≡ true → ⊥)
      → (i : ℕ) (x : Card) → cond (eqb h i && accepted) (Some y) (lies codes figures (calls D (dealt_choice D) past) i) ≡ Some x
      → altered figures (dealt i) x ≡ true → Lies D (dealt_choice D) past i x
  present_old h y accepted past none i x e a =
      ⊎_elim (λ r. absurd (none r.0 (ap₂ (λ z w. altered figures (dealt z) w) r.1 r.2 ∙ a))) (λ k. k) (after_present h i y x accepted _ e)

  pub exceptional : (script : Run Move) → Each (Permitted codes figures group) script → Exceptional script
  exceptional start permitted =
      ([], omega arith, λ past e i x h a c d s. none-some x (sym (ap (λ z. lies codes figures (calls D (dealt_choice D) z) i) e) ∙ h))
  exceptional (past then as_dealt h) permitted =
      let ih = exceptional past permitted.0 in
      same_cover past (as_dealt h) _ ih (more _ _ bound (length ih.0) ih.1)
      (present_old h (dealt h) _ past (λ _ a. true≢false (sym a ∙ itself_unaltered figures (dealt h))))
  exceptional (past then just (present h y)) permitted =
      by accepted (altered figures (dealt h) y) refl refl permitted.1 (exceptional past permitted.0)
    where
      accepted : Bool
      accepted = present_accepted codes figures (lies codes figures (calls D (dealt_choice D) past) h) h y

      by : (t a : Bool) → accepted ≡ t → altered figures (dealt h) y ≡ a → Permitted codes figures group (just (present h y)) → Exceptional past
          → Exceptional (past then just (present h y))
      by false a p r fy ih =
          same_cover past (just (present h y)) _ ih (more _ _ bound (length ih.0) ih.1)
          (present_old h y accepted past (λ z _. true≢false (sym z ∙ p)))
      by true false p r fy ih =
          same_cover past (just (present h y)) _ ih (more _ _ bound (length ih.0) ih.1)
          (present_old h y accepted past (λ _ z. true≢false (sym z ∙ r)))
      by true true p r fy ih =
          let one = one_card h y (member fy) (accepted_right codes figures _ h y p) r in
          let w = forgeries D (dealt_choice D) past in (
            one.0 ++ ih.0,
            omega (
              arith,
              length-append one.0 ih.0,
              one_more _ w bound (length ih.0) (length one.0) (and_from _ _ p r) one.1 ih.1,
            ),
            extend (one.0 ++ ih.0) ih.0 past (just (present h y)) (λ c k. in_right one.0 ih.0 c k) ih.2
                (λ i x e b c d s. ⊎_elim
                (λ z. in_left one.0 ih.0 c (one.2 c d (ap₂ (λ n card. strays D c (n, card)) z.1 z.2 ∙ s)))
                (λ z. in_right one.0 ih.0 c (ih.2 past (whole past) i x z b c d s)) (after_present h i y x accepted _ e)),
          )
        where
          member : Permitted codes figures group (just (present h y)) → In h group
          member (inl k) = k
          member (inr k) = absurd (true≢false (sym p ∙ ap not (k _)))
  exceptional (past then just (withdraw h)) permitted =
      let ih = exceptional past permitted.0 in
      same_cover past (just (withdraw h)) _ ih ih.1
      (λ i x e a. grind arith)
  exceptional (past then just seal) permitted =
      let ih = exceptional past permitted.0 in same_cover past (just seal) _ ih ih.1 (λ i x e a. e)
  exceptional (past then just reopen) permitted =
      let ih = exceptional past permitted.0 in same_cover past (just reopen) _ ih ih.1 (λ i x e a. e)
  exceptional (past then just (opens buffer names)) permitted =
      let ih = exceptional past permitted.0 in same_cover past (just (opens buffer names)) _ ih ih.1 (λ i x e a. e)
