-- The cards on a table as the list of those that lie.
-- Assumes nothing.
use Rattle.std.proofs.Common.{◌≡◌, ℕ, suc, ◌+◌, ◌<◌, Bool, false, List, [], ◌∷◌, map, length, get_or, is_some, Some, None, filter, Option, sym, refl, ap, ◌∙◌, subst, ap₂, inl, inr, add-one, arith}
use Rattle.std.specs.List.{range_with_len}
use Rattle.algebra.specs.Polynomial.{Apart, Distinct}
use Rattle.algebra.specs.Count.{In}
use Rattle.algebra.proofs.Counting.{all_in, all_from_in}
use Rattle.runs.specs.Cards.{Card, Cards, card_of, lying_from, lying}
use Rattle.scheme.proofs.Enumerated.{distinct_counting}

abbrev pub number : ℕ × Card → ℕ
number a = a.0

-- the cards of some numbers, where o i is the card of i or none
abbrev put : Option Card → ℕ → List (ℕ × Card) → List (ℕ × Card)
put None i l = l
put (Some card) i l = (i, card) ∷ l

abbrev pub collect : (ℕ → Option Card) → List ℕ → List (ℕ × Card)
collect o [] = []
collect o (i ∷ is) = put (o i) i (collect o is)

-- there is a card, and it passes the test
abbrev pub tested : (ℕ × Card → Bool) → Option Card → ℕ → Bool
tested p None i = false
tested p (Some card) i = p (i, card)

module _ (o : ℕ → Option Card) where
  pub in_collect : (is : List ℕ) (a : ℕ × Card) → In a (collect o is) → In a.0 is × (o a.0 ≡ Some a.1)
  in_collect [] a k = absurd k
  in_collect (i ∷ is) a k = grind (arith, in_collect is a)

  pub collect_in : (is : List ℕ) (i : ℕ) (card : Card) → In i is → o i ≡ Some card → In (i, card) (collect o is)
  collect_in [] i card k e = absurd k
  collect_in (h ∷ is) i card (inl q) e = grind arith
  collect_in (h ∷ is) i card (inr k) e = grind (arith, collect_in is i card k e)

  pub apart_collect : (is : List ℕ) → Distinct is → Apart number (collect o is)
  apart_collect [] d = tt
  apart_collect (i ∷ is) d =
      grind (
        arith,
        apart_collect is d.1,
        all_from_in {P = λ (a : ℕ × Card). a.0 ≡ i → ⊥} (collect o is) (λ a m e. all_in _ is a.0 d.0 (in_collect is a m).0 e),
      )

  -- the numbers of the cards that pass a test
  pub numbers_kept : (p : ℕ × Card → Bool) (is : List ℕ) → map number (filter p (collect o is)) ≡ filter (λ i. tested p (o i) i) is
  numbers_kept p [] = refl
  numbers_kept p (i ∷ is) = grind (arith, numbers_kept p is)

  pub numbers_collected : (is : List ℕ) → map number (collect o is) ≡ filter (λ i. is_some (o i)) is
  numbers_collected [] = refl
  numbers_collected (i ∷ is) = grind (arith, numbers_collected is)

pub collect_same : (o p : ℕ → Option Card) (is : List ℕ) → ((i : ℕ) → In i is → o i ≡ p i) → collect o is ≡ collect p is
collect_same o p [] h = refl
collect_same o p (i ∷ is) h = ap₂ (λ x l. put x i l) (h i (inl refl)) (collect_same o p is (λ j k. h j (inr k)))

-- what lies on a table, where the first place has the number i
lying_collected : (i : ℕ) (cards : Cards) (o : ℕ → Option Card) → ((h : ℕ) → h < length cards → get_or cards h None ≡ o (i + h))
    → lying_from i cards ≡ collect o (range_with_len i (length cards))
lying_collected i [] o e = refl
lying_collected i (x ∷ cards) o e =
    let rest = lying_collected (i + 1) cards o (λ h l. e (suc h) (omega arith) ∙ ap o (omega arith)) in
    let here : x ≡ o i = e 0 (omega arith) ∙ ap o (omega arith) in
    grind (arith, add-one i)

-- on a table of n places, what lies are the cards of the numbers from 1 to n
pub lying_is : (cards : Cards) (n : ℕ) → length cards ≡ n → lying cards ≡ collect (card_of cards) (range_with_len 1 n)
lying_is cards n e =
    lying_collected 1 cards (card_of cards) (λ h l. ap (λ z. get_or cards z None) (omega arith)) ∙ ap (λ z. collect (card_of cards) (range_with_len 1 z)) e

-- no number has two cards
pub lying_apart : (cards : Cards) → Apart number (lying cards)
lying_apart cards =
    subst (Apart number) (sym (lying_is cards (length cards) refl))
    (apart_collect (card_of cards) (range_with_len 1 (length cards)) (distinct_counting 1 (length cards)))
