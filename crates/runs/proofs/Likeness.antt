-- What lies under two choices that deal the group the same cards: the same numbers, with the same cards for the group and with the
-- cards as dealt for all others.
-- Assumes nothing.
use Rattle.std.proofs.Common.{◌≡◌, ℕ, ◌+◌, Bool, true, false, cond, not, ◌&&◌, eqb, ◌⊎◌, List, is_some, Some, None, Option, sym, refl, ap, ◌∙◌, subst, ap₂, inl, inr, true≢false, arith}
use Rattle.std.proofs.lemmas.Bool.{eqb-true, eq-eqb, or_from}
use Rattle.std.proofs.lemmas.List.Elements.{filter_agree}
use Rattle.algebra.specs.Count.{In}
use Rattle.algebra.proofs.Counting.{all_in}
use Rattle.scheme.specs.Dealing.{participants, places}
use Rattle.scheme.specs.declared.types.Figures.{Figures}
use Rattle.runs.specs.Cards.{Card, is_participant, present_refusal}
use Rattle.runs.specs.Opening.{pair_at}
use Rattle.runs.specs.Runs.{Run, start, ◌then◌, Each, present, withdraw, seal, reopen, opens, present_accepted, withdraw_accepted, lies, numbers_lying, altered, lies_altered, lies_unaltered, lying_altered, lying_unaltered}
use Rattle.runs.specs.Law.{Deal, Choice, Move, as_dealt, just, Permitted, card_under, calls, Lies, Deals, forgeries}
use Rattle.runs.proofs.Lists.{none_from}
use Rattle.runs.proofs.Dealt.{deals_sound, card_refused, same_cards}
use Rattle.runs.proofs.Tables.{present_by, withdraw_by}

-- a card beside itself is not altered
pub itself_unaltered : (f : Figures) (card : Card) → altered f card card ≡ false
itself_unaltered f card =
    none_from _ (places f) (λ j _. or_from _ _ (ap not (eq-eqb (pair_at card j).value (pair_at card j).value refl))
    (ap not (eq-eqb (pair_at card j).tag (pair_at card j).tag refl)))

module _ (D : Deal) (group : List ℕ) (b c : Choice) (hb : Deals D group b) (hc : Deals D group c) where
  open D use {codes, figures}

  -- no card of i under either choice, or the same card of one of the group, or the cards as dealt
  abbrev Like : ℕ → Option Card → Option Card → Type 0
  Like i o p =
      ((o ≡ None) × (p ≡ None))
      ⊎ (((x : Card) × In i group × (o ≡ Some x) × (p ≡ Some x)) ⊎ ((o ≡ Some (card_under D b i)) × (p ≡ Some (card_under D c i))))

  like_some : (i : ℕ) (o p : Option Card) → Like i o p → is_some o ≡ is_some p
  like_some i o p h = grind arith

  -- a present of cards that are alike
  abbrev Paired : ℕ → Card → Card → Type 0
  Paired h x y = (In h group × (x ≡ y)) ⊎ ((x ≡ card_under D b h) × (y ≡ card_under D c h))

  present_like : (h i : ℕ) (x y : Card) (r s : Bool) (o p : Option Card) → r ≡ s → (r ≡ true → Paired h x y) → Like i o p
      → Like i (cond (eqb h i && r) (Some x) o) (cond (eqb h i && s) (Some y) p)
  present_like h i x y r s o p e pair k =
      subst (λ z. Like i (cond (eqb h i && r) (Some x) o) (cond (eqb h i && z) (Some y) p)) e (by (eqb h i) r refl pair)
    where
      made : h ≡ i → Paired h x y → Like i (Some x) (Some y)
      made z (inl m) = inr (inl (x, subst (λ w. In w group) z m.0, refl, ap Some (sym m.1)))
      made z (inr m) = inr (inr (ap Some (m.0 ∙ ap (card_under D b) z), ap Some (m.1 ∙ ap (card_under D c) z)))

      by : (a t : Bool) → eqb h i ≡ a → (t ≡ true → Paired h x y) → Like i (cond (a && t) (Some x) o) (cond (a && t) (Some y) p)
      by true true z w = made (eqb-true h i z) (w refl)
      by true false z w = k
      by false t z w = k

  -- presents of the cards as dealt have the same answer
  pub dealt_refusal : (i : ℕ) (o p : Option Card) → is_participant codes figures i ≡ true → is_some o ≡ is_some p
      → present_refusal codes figures o i (card_under D b i) ≡ present_refusal codes figures p i (card_under D c i)
  dealt_refusal i o p m e =
      card_refused D b i (deals_sound D group b hb) o m ∙ ap (λ z. cond (not z) None (Some 44)) e
      ∙ sym (card_refused D c i (deals_sound D group c hc) p m)

  abbrev under_b : Run Move → ℕ → Option Card
  under_b past = lies codes figures (calls D b past)

  abbrev under_c : Run Move → ℕ → Option Card
  under_c past = lies codes figures (calls D c past)

  -- the cards of a permitted present, where it is accepted
  presented_pair : (h : ℕ) (x : Card) (old : Option Card) → Permitted codes figures group (just (present h x))
      → present_accepted codes figures old h x ≡ true → Paired h x x
  presented_pair h x old (inl m) z = inl (m, refl)
  presented_pair h x old (inr m) z = absurd (true≢false (sym z ∙ ap not (m old)))

  like : (past : Run Move) → Each (Permitted codes figures group) past → (i : ℕ) → Like i (under_b past i) (under_c past i)
  like start permitted i = inl (refl, refl)
  like (past then as_dealt h) permitted i =
      present_like h i _ _ _ _ _ _
      (ap (λ r. not (is_some r)) (dealt_refusal h _ _ permitted.1 (like_some h _ _ (like past permitted.0 h)))) (λ _. inr (refl, refl))
      (like past permitted.0 i)
  like (past then just (present h x)) permitted i =
      present_like h i x x (present_accepted codes figures (under_b past h) h x) _ _ _
      (ap (λ r. not (is_some r)) (present_by codes figures _ _ h x (like_some h _ _ (like past permitted.0 h))))
      (presented_pair h x (under_b past h) permitted.1) (like past permitted.0 i)
  like (past then just (withdraw h)) permitted i =
      subst (λ z. Like i (cond (eqb h i && withdraw_accepted codes figures (under_b past h) h) None (under_b past i))
      (cond (eqb h i && not (is_some z)) None (under_c past i)))
      (withdraw_by codes figures _ _ h (like_some h _ _ (like past permitted.0 h)))
      (by (eqb h i && withdraw_accepted codes figures (under_b past h) h) (like past permitted.0 i))
    where
      by : (t : Bool) → Like i (under_b past i) (under_c past i) → Like i (cond t None (under_b past i)) (cond t None (under_c past i))
      by true k = inl (refl, refl)
      by false k = k
  like (past then just seal) permitted i = like past permitted.0 i
  like (past then just reopen) permitted i = like past permitted.0 i
  like (past then just (opens buffer names)) permitted i = like past permitted.0 i

  module _ (past : Run Move) (permitted : Each (Permitted codes figures group) past) where
    pub same_some_lies : (i : ℕ) → is_some (under_b past i) ≡ is_some (under_c past i)
    same_some_lies i = like_some i _ _ (like past permitted i)

    pub same_lying : numbers_lying codes figures (calls D b past) ≡ numbers_lying codes figures (calls D c past)
    same_lying = filter_agree _ _ same_some_lies (participants figures)

    -- a card of the group lies under both
    pub group_lies : (i : ℕ) (x : Card) → In i group → Lies D b past i x → Lies D c past i x
    group_lies i x m e = grind (arith, like past permitted i, all_in _ group i (same_cards D group b c hb hc) m)

    -- what depends on the lying card and the dealt one alone
    same_beside : (P : Card → Option Card → Bool) → ((x y : Card) → P x None ≡ P y None) → ((x y : Card) → P x (Some x) ≡ P y (Some y))
        → (i : ℕ) → P (card_under D b i) (under_b past i) ≡ P (card_under D c i) (under_c past i)
    same_beside P none itself i =
        grind (arith, like past permitted i, all_in _ group i (same_cards D group b c hb hc), none, itself)

    pub same_altered : lying_altered codes figures (card_under D b) (calls D b past) ≡ lying_altered codes figures (card_under D c) (calls D c past)
    same_altered =
        filter_agree _ _
        (same_beside (lies_altered figures) (λ x y. refl) (λ x y. itself_unaltered figures x ∙ sym (itself_unaltered figures y)))
        (participants figures)

    pub same_unaltered : lying_unaltered codes figures (card_under D b) (calls D b past) ≡ lying_unaltered codes figures (card_under D c)
        (calls D c past)
    same_unaltered =
        filter_agree _ _
        (same_beside (lies_unaltered figures) (λ x y. refl) (λ x y. ap not (itself_unaltered figures x ∙ sym (itself_unaltered figures y))))
        (participants figures)

  -- as many altered cards are accepted
  pub same_forgeries : (script : Run Move) → Each (Permitted codes figures group) script → forgeries D b script ≡ forgeries D c script
  same_forgeries start permitted = refl
  same_forgeries (past then as_dealt h) permitted =
      ap₂ (λ x n. cond x 1 0 + n)
      (ap₂ ◌&&◌ (ap (λ r. not (is_some r)) (dealt_refusal h _ _ permitted.1 (same_some_lies past permitted.0 h)))
      (itself_unaltered figures (card_under D b h) ∙ sym (itself_unaltered figures (card_under D c h))))
      (same_forgeries past permitted.0)
  same_forgeries (past then just (present h x)) permitted =
      ap₂ (λ z n. cond z 1 0 + n)
      (by (present_accepted codes figures (under_b past h) h x) (present_accepted codes figures (under_c past h) h x)
      (ap (λ r. not (is_some r)) (present_by codes figures _ _ h x (same_some_lies past permitted.0 h)))
      (λ z. pair_same (presented_pair h x (under_b past h) permitted.1 z)))
      (same_forgeries past permitted.0)
    where
      pair_same : Paired h x x → altered figures (card_under D b h) x ≡ altered figures (card_under D c h) x
      pair_same (inl m) = ap (λ z. altered figures z x) (all_in _ group h (same_cards D group b c hb hc) m.0)
      pair_same (inr m) = ap (λ z. altered figures z x) (sym m.0 ∙ m.1)

      by : (r s : Bool) → r ≡ s → (r ≡ true → altered figures (card_under D b h) x ≡ altered figures (card_under D c h) x)
          → (r && altered figures (card_under D b h) x) ≡ (s && altered figures (card_under D c h) x)
      by true s e k = ap₂ ◌&&◌ e (k refl)
      by false s e k = ap (λ z. z && altered figures (card_under D c h) x) e
  same_forgeries (past then just (withdraw h)) permitted = same_forgeries past permitted.0
  same_forgeries (past then just seal) permitted = same_forgeries past permitted.0
  same_forgeries (past then just reopen) permitted = same_forgeries past permitted.0
  same_forgeries (past then just (opens buffer names)) permitted = same_forgeries past permitted.0

-- a lying card is one of the group's, or as dealt
pub lying_kinds : (D : Deal) (group : List ℕ) (c : Choice) → Deals D group c → (past : Run Move) → Each (Permitted D.codes D.figures group) past
    → (i : ℕ) (x : Card) → Lies D c past i x → In i group ⊎ (x ≡ card_under D c i)
lying_kinds D group c hc past permitted i x e = grind (arith, like D group c c hc hc past permitted i)
