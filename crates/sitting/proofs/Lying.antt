-- The cards on a table after a write to it, and how many lie.
-- Assumes nothing.
use Rattle.std.proofs.Common.{◌≡◌, ℕ, suc, ◌+◌, ◌-◌, ◌*◌, ◌<◌, ◌≤◌, Bool, true, false, cond, List, [], ◌∷◌, map, length, get_or, take, drop, set, replicate, is_some, Some, None, count_by, sym, refl, ap, ◌∙◌, ⊎_elim, arith, rules}
use lib.Seq.{paste}
use Rattle.std.proofs.lemmas.List.FromFn.{get_or-map-range_with_len, length-map-range_with_len}
use Rattle.std.proofs.lemmas.List.{places, same_lists, get_or-set_same, get_or-set_other, length-set, get_or-replicate, length-replicate, length-map, length-take-le, get_or-map}
use Rattle.std.proofs.lemmas.List.Sums.{sum_by-cons}
use Rattle.std.proofs.lemmas.Bool.{cases_eq}
use Rattle.scheme.specs.declared.types.Figures.{Figures}
use Rattle.scheme.specs.declared.types.Pair.{Pair}
use Rattle.runs.specs.Cards.{Cards, lying_from, lying}
use Rattle.sitting.specs.declared.types.Table.{Table}
use Rattle.sitting.specs.Table.{first_place, card_at, cards_on, written, blank_table}

some_where : {X : Type 0} (b : Bool) (x : X) → is_some (cond b (Some x) None) ≡ b
some_where true x = refl
some_where false x = refl

-- a card of i lies exactly where its flag is set
pub lies_at : (f : Figures) (t : Table) (i : ℕ) → 1 ≤ i → i ≤ f.n → is_some (get_or (cards_on f t) (i - 1) None) ≡ get_or t.lying (i - 1) false
lies_at f t i low high =
    ap is_some (get_or-map-range_with_len (card_at f.d t) 1 f.n (i - 1) i None (omega arith) (omega arith)) ∙ some_where (get_or t.lying (i - 1) false) _

-- the first d of the 64 places from 64·a on, after a write there and after one to the places from 64·b on
part_here : (ps pairs : List Pair) (a d : ℕ) → d ≤ length pairs → a + length pairs ≤ length ps → take d (drop a (paste ps a pairs (length pairs))) ≡ take d pairs
part_here ps pairs a d long fits = same_lists _ _ (search (rules, places)) (λ k e h. grind (arith, places))

part_apart : (ps pairs : List Pair) (a b d : ℕ) → (b ≡ a → ⊥) → length pairs ≤ 64 → d ≤ 64 → a * 64 + 64 ≤ length ps → take d (drop (b * 64) (paste ps (a * 64) pairs (length pairs))) ≡ take d (drop (b * 64) ps)
part_apart ps pairs a b d other long small fits = same_lists _ _ (search (rules, places)) (λ k e h. grind (arith, places))

module _ (f : Figures) (t : Table) (i : ℕ) (pairs : List Pair) (lies : Bool) where
  here : 1 ≤ i → i ≤ 32 → f.d ≤ length pairs → length pairs ≤ 64 → length t.lying ≡ 32 → length t.places ≡ 2048
      → card_at f.d (written t i pairs lies) i ≡ cond lies (Some (take f.d pairs)) None
  here low high enough short flags wide =
      ap (λ b. cond b (Some (take f.d (drop (first_place i) (written t i pairs lies).places))) None) (get_or-set_same t.lying (i - 1) lies false (omega arith))
      ∙ ap (λ card. cond lies (Some card) None) (part_here t.places pairs (first_place i) f.d enough (omega arith))

  apart : 1 ≤ i → i ≤ 32 → length pairs ≤ 64 → length t.places ≡ 2048 → (j : ℕ) → 1 ≤ j → (j ≡ i → ⊥)
      → card_at f.d (written t i pairs lies) j ≡ card_at f.d t j
  apart low high short wide j from other =
      let ne : j - 1 ≡ i - 1 → ⊥ = λ e. other (omega arith) in
      ap (λ b. cond b (Some (take f.d (drop (first_place j) (written t i pairs lies).places))) None) (get_or-set_other t.lying (i - 1) (j - 1) lies false ne)
      ∙ ap (λ card. cond (get_or t.lying (j - 1) false) (Some card) None) (part_apart t.places pairs (i - 1) (j - 1) f.d ne short (omega arith) (omega arith))

  -- one participant's card is another, the others' are as they were
  pub cards_written : 1 ≤ i → i ≤ 32 → f.d ≤ length pairs → length pairs ≤ 64 → length t.lying ≡ 32 → length t.places ≡ 2048
      → cards_on f (written t i pairs lies) ≡ set (cards_on f t) (i - 1) (cond lies (Some (take f.d pairs)) None)
  cards_written low high enough short flags wide =
      let u = written t i pairs lies in
      let c = cond lies (Some (take f.d pairs)) None in
      let long = length-map-range_with_len (card_at f.d u) 1 f.n in
      let long' = length-map-range_with_len (card_at f.d t) 1 f.n in
      same_lists _ _ (long ∙ sym (length-set (cards_on f t) (i - 1) c ∙ long'))
      (λ k e h.
      let in-n : k < f.n = omega arith in
      let left = get_or-map-range_with_len (card_at f.d u) 1 f.n k (1 + k) e in-n refl in
      ⊎_elim
      (λ same. left ∙ ap (card_at f.d u) same ∙ here low high enough short flags wide
      ∙ sym (ap (λ m. get_or (set (cards_on f t) (i - 1) c) m e) (omega arith) ∙ get_or-set_same (cards_on f t) (i - 1) c e (omega arith)))
      (λ other. left ∙ apart low high short wide (1 + k) (omega arith) other
      ∙ sym (get_or-set_other (cards_on f t) (i - 1) k c e (λ q. other (omega arith)) ∙ get_or-map-range_with_len (card_at f.d t) 1 f.n k (1 + k) e in-n refl))
      (cases_eq (1 + k) i))

counted_from : (i : ℕ) (cards : Cards) → length (lying_from i cards) ≡ count_by (λ b. b) (map is_some cards)
counted_from i [] = refl
counted_from i (None ∷ cards) = omega (arith, counted_from (suc i) cards)
counted_from i (Some card ∷ cards) = omega (arith, counted_from (suc i) cards, sum_by-cons (λ b. cond b 1 0) true (map is_some cards))

-- as many cards lie as flags are set
pub lying_counted : (f : Figures) (t : Table) → length t.lying ≡ 32 → length (lying (cards_on f t)) ≡ count_by (λ b. b) (take f.n t.lying)
lying_counted f t flags =
    let cards = cards_on f t in
    let long = length-map-range_with_len (card_at f.d t) 1 f.n in
    let each : map is_some cards ≡ take f.n t.lying =
    same_lists _ _ (length-map cards is_some ∙ long ∙ sym (length-take-le f.n t.lying (omega arith)))
    (λ k e h.
    let in-n : k < f.n = omega (arith, length-map cards is_some, long) in
    let same : 1 + k - 1 ≡ k = omega arith in
    get_or-map is_some cards k None e (omega (arith, long)) ∙ (rw same at (lies_at f t (1 + k) (omega arith) (omega arith)))
    ∙ search (rules, places)) in
    counted_from 1 cards ∙ ap (count_by (λ b. b)) each

-- on a blank table no card lies
pub none_on_blank : (f : Figures) → cards_on f blank_table ≡ replicate f.n None
none_on_blank f =
    let long = length-map-range_with_len (card_at f.d blank_table) 1 f.n in
    same_lists _ _ (long ∙ sym (length-replicate f.n None))
    (λ k e h.
    let in-n : k < f.n = omega arith in
    let off : get_or blank_table.lying (1 + k - 1) false ≡ false = get_or-replicate 32 (1 + k - 1) false false (omega arith) in
    get_or-map-range_with_len (card_at f.d blank_table) 1 f.n k (1 + k) e in-n refl
    ∙ ap (λ b. cond b (Some (take f.d (drop (first_place (1 + k)) blank_table.places))) None) off
    ∙ sym (get_or-replicate f.n k None e in-n))
