-- The law over runs, and that every run of calls is a script's.
-- Assumes nothing.
use Rattle.std.proofs.Common.{◌≡◌, ℕ, ◌-◌, ◌^◌, ◌<◌, ◌≤◌, false, not, ◌⊎◌, List, [], length, filter, sym, refl, ap, ◌∙◌, subst, ap₂, inl, inr, ⊎_elim, true≢false, arith}
use Rattle.std.proofs.lemmas.Bool.{eq-eqb, false_from_ne_true, true_from_ne_false}
use Rattle.algebra.specs.Count.{In, Exactly}
use Rattle.algebra.proofs.Counting.{all_in, exactly_iff}
use Rattle.scheme.specs.Dealing.{places}
use Rattle.scheme.proofs.Enumerated.{kept_none}
use Rattle.runs.specs.Cards.{Card}
use Rattle.runs.specs.Opening.{pair_at}
use Rattle.runs.specs.Runs.{Run, start, ◌then◌, Each, Beginning, Call, present, withdraw, seal, reopen, opens, value_altered, tag_altered, altered, altered_values}
use Rattle.runs.specs.Law.{Deal, Group, Choice, Move, as_dealt, just, called, Permitted, q, dealt_choice, card_under, calls, Passes, Names, Lies, Deals, Naming, OpensAfter, Law, PermittedCall, LawOverRuns}
use Rattle.runs.proofs.Tables.{lies_right}
use Rattle.runs.proofs.Dealt.{shares_dealt, dealt_deals}
use Rattle.runs.proofs.Likeness.{itself_unaltered, same_lying, group_lies, same_forgeries, lying_kinds}
use Rattle.runs.proofs.Naming.{strays, unaltered_stays, altered_tag_strays, named_strays, strays_named}
use Rattle.runs.proofs.Tally.{choices_count, unnamed_count}
use Rattle.runs.proofs.Beginnings.{each_beginning, before}
use Rattle.runs.proofs.Exceptions.{Exceptional, exceptional}
use Rattle.runs.proofs.Alike.{Strict, identified, answers_same}

module _ (D : Deal) (group : List ℕ) (grp : Group D.figures group) where
  open D use {codes, u, v, figures}

  abbrev dealt : ℕ → Card
  dealt = card_under D (dealt_choice D)

  abbrev hd : Deals D group (dealt_choice D)
  hd = dealt_deals D group

  -- ---- one open that passes its first three questions

  module _ (c : Choice) (hc : Deals D group c) (past : Run Move) (permitted : Each (Permitted codes figures group) past)
      (buffer names : List ℕ) (pass : Passes D c past buffer names) where
    -- it passes them under each choice that deals the group its cards
    pass_under : (b : Choice) → Deals D group b → Passes D b past buffer names
    pass_under b hb = record {
      key_room = pass.key_room;
      names_room = pass.names_room;
      enough = subst (λ l. figures.k ≤ length l) (same_lying D group c b hc hb past permitted) pass.enough;
    }

    -- a card with an altered value is one of the group's
    altered_member : (i : ℕ) (x : Card) → Lies D c past i x → 1 ≤ altered_values figures (card_under D c i) x → In i group
    altered_member i x e some = ⊎_elim (λ m. m) (λ z. absurd (as_dealt z)) (lying_kinds D group c hc past permitted i x e)
      where
        as_dealt : x ≡ card_under D c i → ⊥
        as_dealt z =
            let none : filter (value_altered (card_under D c i) x) (places figures) ≡ [] =
            kept_none _ (places figures) (λ j _. ap not (eq-eqb _ _ (ap (λ y. (pair_at y j).value) z))) in
            omega (arith, ap length none)

    unnamed_choices : (i : ℕ) (x : Card) → Lies D c past i x → 1 ≤ altered_values figures (card_under D c i) x
        → ((j : ℕ) → j < figures.d → value_altered (card_under D c i) x j ≡ false → tag_altered (card_under D c i) x j ≡ false)
        → Exactly (q D ^ (figures.d - altered_values figures (card_under D c i) x)) (λ b. Deals D group b × (Names D b past buffer names i → ⊥))
    unnamed_choices i x e some elsewhere =
        subst (λ y. Exactly (q D ^ (figures.d - altered_values figures y x)) (λ b. Deals D group b × (Names D b past buffer names i → ⊥))) (sym same)
        (exactly_iff
        (λ b h. (
          h.0,
          λ k. true≢false (sym (named_strays D group grp b h.0 past permitted buffer names (pass_under b h.0) i x
              (lies_under b h.0) k) ∙ h.1),
        ))
        (λ b h. (
          h.0,
          false_from_ne_true _ (λ s. h.1 (strays_named D group grp b h.0 past permitted buffer names (pass_under b h.0) i x
              (lies_under b h.0) s)),
        ))
        (unnamed_count D group grp i m x (lies_right codes figures (calls D c past) i x e)
        (subst (λ y. (j : ℕ) → j < figures.d → value_altered y x j ≡ false → tag_altered y x j ≡ false) same elsewhere)))
      where
        m : In i group
        m = altered_member i x e some

        same : card_under D c i ≡ dealt i
        same = all_in _ group i hc.same_cards m

        lies_under : (b : Choice) → Deals D group b → Lies D b past i x
        lies_under b hb = group_lies D group c b hc hb past permitted i x m e

    told : Naming D group c past buffer names
    told = record {
      dealt_card_unnamed = λ i x e a n. true≢false (sym (named_strays D group grp c hc past permitted buffer names pass i x e n)
          ∙ unaltered_stays D c i x a);
      altered_tag_named = λ i x e j l p r. strays_named D group grp c hc past permitted buffer names pass i x e (altered_tag_strays D c i x j l p r);
      altered_values_unnamed = unnamed_choices;
    }

  -- ---- a script

  law : (script : Run Move) → Each (Permitted codes figures group) script → Law D group script
  law script permitted = record {
    shares_dealt = shares_dealt D;
    choices = choices_count D group grp;
    dealt_is_one = hd;
    same_lying = λ c hc past e. same_lying D group c (dealt_choice D) hc hd past (permitted_until past e);
    same_forgeries = λ c hc. same_forgeries D group c (dealt_choice D) hc hd script permitted;
    naming = λ c hc past buffer names e p. told c hc past (permitted_before past buffer names e) buffer names p;
    exceptions = found.0;
    few = found.1;
    alike = λ b c hb hc nb nc. answers_same D group grp b c hb hc script permitted (strict b hb nb) (strict c hc nc);
    identifies = λ c hc nc past buffer names e p.
        identified D group grp c hc past (permitted_before past buffer names e)
        (strict c hc nc past (before past script (just (opens buffer names)) e)) buffer names p;
  }
    where
      found : Exceptional D group grp script
      found = exceptional D group grp script permitted

      permitted_until : (past : Run Move) → Beginning past script → Each (Permitted codes figures group) past
      permitted_until past e = each_beginning (Permitted codes figures group) past script e permitted

      permitted_before : (past : Run Move) (buffer names : List ℕ) → OpensAfter D past buffer names script → Each
          (Permitted codes figures group) past
      permitted_before past buffer names e = (permitted_until (past then just (opens buffer names)) e).0

      -- under a choice that is no exception each lying altered card strays
      strict : (c : Choice) → Deals D group c → (In c found.0 → ⊥) → (past : Run Move) → Beginning past script → Strict D c past
      strict c hc nc past e i x h a =
          true_from_ne_false _ (λ s. by s (lying_kinds D group c hc past (permitted_until past e) i x h))
        where
          by : strays D c (i, x) ≡ false → In i group ⊎ (x ≡ card_under D c i) → ⊥
          by s (inl m) =
              nc (found.2 past e i x (group_lies D group c (dealt_choice D) hc hd past (permitted_until past e) i x m h)
              (ap (λ z. altered figures z x) (sym (all_in _ group i hc.same_cards m)) ∙ a) c hc s)
          by s (inr z) = true≢false (sym a ∙ ap (λ y. altered figures y x) (sym z) ∙ itself_unaltered figures x)

-- ---- every run of calls is a script's

module _ (D : Deal) (group : List ℕ) where
  one_move : (call : Call) → PermittedCall D group call
      → (m : Move) × Permitted D.codes D.figures group m × (called (card_under D (dealt_choice D)) m ≡ call)
  one_move (present i card) (inl m) = (just (present i card), inl m, refl)
  one_move (present i card) (inr (inl h)) = (as_dealt i, h.0, ap (present i) (sym h.1))
  one_move (present i card) (inr (inr h)) = (just (present i card), inr h, refl)
  one_move (withdraw i) h = (just (withdraw i), tt, refl)
  one_move seal h = (just seal, tt, refl)
  one_move reopen h = (just reopen, tt, refl)
  one_move (opens buffer names) h = (just (opens buffer names), tt, refl)

  scripted : (run : Run Call) → Each (PermittedCall D group) run
      → (script : Run Move) × Each (Permitted D.codes D.figures group) script × (calls D (dealt_choice D) script ≡ run)
  scripted start h = (start, tt, refl)
  scripted (past then call) h =
      let m = one_move call h.1 in let r = scripted past h.0 in (r.0 then m.0, (r.1, m.1), ap₂ ◌then◌ r.2 m.2)

pub law_over_runs_lem : LawOverRuns
law_over_runs_lem D group grp = record { scripted = scripted D group; lawful = law D group grp }
