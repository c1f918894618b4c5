-- Loops that copy the items of a list, each to its place.
-- Assumes nothing.
use Rattle.std.proofs.Common.{◌≡◌, ℕ, ◌+◌, ◌<◌, Bool, true, false, eqb, List, [], ◌∷◌, ◌++◌, length, get_or, take, set, sym, ap, ◌∙◌, subst, arith}
use Rattle.std.specs.Fn.{CalledAt}
use Rattle.std.specs.Iterator.Adapters.{enumerate_source, enumerate_count, enumerate_steps}
use Rattle.std.specs.List.{enumerate_from}
use Rattle.std.specs.Slice.Iter.{split_rest, split_done, split_callee, split_steps}
use Rattle.std.proofs.lemmas.Iterator.{YieldsList}
use Rattle.std.proofs.lemmas.Iterator.Consumers.{YieldsList-at, YieldsList-from_enumerate}
use Rattle.std.proofs.lemmas.Iterator.Splits.{YieldsList-from_slice_split}
use Rattle.std.proofs.lemmas.List.{take_more, take_more_set}
use Rattle.std.proofs.lemmas.List.FromFn.{length-enumerate_from, get_or-enumerate_from}
use Rattle.std.proofs.lemmas.List.Sums.{AllPass-from_list_all}
use denote.Ref.{Bor}
use denote.Param.Members.{Mut}
use Rattle.text.specs.Numbers.{pieces, is_number, is_list}

-- the item of a loop with its place is the next item of the list
pub placed : {B : Type 0} (all : List B) (n i : ℕ) (x : B) → (n < length (enumerate_from 0 all)) × ((i, x) ≡ get_or (enumerate_from 0 all) n (i, x))
    → (i < length all) × (i ≡ n) × (x ≡ get_or all i x)
placed {B} all n i x h =
    let small : n < length all = omega (arith, length-enumerate_from 0 all, h.0) in
    let e = h.1 ∙ get_or-enumerate_from 0 all n (i, x) small in
    let same : i ≡ n = omega (arith, ap (λ (p : ℕ × B). p.0) e) in
    (omega arith, same, ap (λ (p : ℕ × B). p.1) e ∙ ap (λ k. get_or all k x) (sym same))

-- one item more is copied: `more` is the place behind it
pub copied_more : {A : Type 0} (all made : List A) (i more : ℕ) (x : A) → more ≡ i + 1 → i < length all → i < length made → x ≡ get_or all i x
    → take i made ≡ take i all → take more (set made i x) ≡ take more all
copied_more all made i more x e h room is same =
    ap (λ k. take k (set made i x)) e ∙ take_more_set made i x room ∙ (λ j. same j ++ (is j ∷ [])) ∙ sym (take_more all i x h) ∙ ap (λ k. take k all) (sym e)

-- a loop over the pieces of a text with their places goes over all of them; the facts are what the calls on its way ensure
pub pieces_road : {F : Type 0} {s t u : _} (g : Mut F (Bor ℕ × Unit {0}) Bool) {f : F} (text : List ℕ)
    → split_rest s ≡ text → split_done s ≡ false → split_callee s ≡ f → ((x : ℕ) (b : Bool) (q : F) → CalledAt g f x b q → (q ≡ f) × (b ≡ eqb x 44))
    → enumerate_source t ≡ s → enumerate_count t ≡ 0 → u ≡ t
    → YieldsList {B = ℕ × List ℕ} (enumerate_steps (split_steps g)) (λ p. (p.0, p.1.now)) u (enumerate_from 0 (pieces text))
pieces_road g text rest done callee call source count into =
    YieldsList-at into (YieldsList-from_enumerate (YieldsList-at source (YieldsList-from_slice_split g (λ b. eqb b 44) text rest done callee call)) count)

-- each piece of a list is a number
pub piece_is_number : (text : List ℕ) (i : ℕ) (piece : List ℕ) → is_list text ≡ true → i < length (pieces text) → piece ≡ get_or (pieces text) i piece → is_number piece ≡ true
piece_is_number text i piece e h is =
    subst (λ p. is_number p ≡ true) (sym is) (AllPass-from_list_all is_number (pieces text) e i piece h)
