-- What the call `open` answers, and what it leaves in its two buffers: in the key buffer the key, and in the names buffer the
-- numbers of the participants whose cards it names. Places are counted from 0.
-- Assumes nothing.
use Rattle.std.specs.Prelude.{◌≡◌, ℕ, ◌-◌, ◌≤◌, Bool, not, leb, List, [], ◌∷◌, ◌++◌, map, length, replicate, Some, None, Ok, Err, filter, Option, Result, ◌==◌, nat_le, slice_index_or}
use Rattle.std.specs.List.{list_all, list_any}
use Rattle.fields.specs.Laws.{Codes}
use Rattle.fields.specs.Doubled.{doubled, join}
use Rattle.scheme.specs.Questions.{first_no}
use Rattle.scheme.specs.Polynomial.{polynomial_value}
use Rattle.scheme.specs.Fitting.{polynomials, passes, fitting}
use Rattle.scheme.specs.Dealing.{places}
use Rattle.scheme.specs.declared.types.Figures.{Figures}
use Rattle.scheme.specs.declared.types.Pair.{Pair}
use Rattle.runs.specs.Cards.{blank, Card, Cards, lying}

-- the answer: how many cards lie and how many it names, or the number of the refusal and how many it names; and the two buffers
-- afterwards
pub record Opening : Type 0 where
  pub answer : Result (ℕ × ℕ) (ℕ × ℕ)
  pub key : List ℕ
  pub names : List ℕ

-- the pair of a card at place j
abbrev pub pair_at : Card → ℕ → Pair
pair_at card j = slice_index_or card j blank

-- the point over the doubled field that a card of participant i has at place j: the abscissa is value + i·y and the ordinate is
-- the tag
abbrev pub tag_point : Codes → ℕ → ℕ × Card → ℕ × ℕ
tag_point C j a = (join C.size (pair_at a.1 j).value a.0, (pair_at a.1 j).tag)

-- the point over the field itself: the abscissa is the element with code i and the ordinate is the value
abbrev pub value_point : ℕ → ℕ × Card → ℕ × ℕ
value_point j a = (a.0, (pair_at a.1 j).value)

-- over the field C, with u and v that double it, for figures f and the cards on the table
module _ (C : Codes) (u v : ℕ) (f : Figures) (cards : Cards) where
  -- the polynomials of degree at most t that fit at place j: they pass through the points of all but at most t of the lying cards
  abbrev pub fitting_at : ℕ → List (List ℕ)
  fitting_at j = fitting (doubled C u v) (map (tag_point C j) (lying cards)) f.t

  abbrev pub the_fitting : ℕ → List ℕ
  the_fitting j = slice_index_or (fitting_at j) 0 []

  -- a card is named where at some place its tag is not the value of the fitting polynomial at its point
  abbrev pub is_named : ℕ × Card → Bool
  is_named a = list_any (λ j. not (passes (doubled C u v) (the_fitting j) (tag_point C j a))) (places f)

  -- the numbers of the named cards, rising
  abbrev pub named : List ℕ
  named = map (λ a. a.0) (filter is_named (lying cards))

  abbrev pub unnamed : List (ℕ × Card)
  unnamed = filter (λ a. not (is_named a)) (lying cards)

  -- the polynomials of degree at most k - 1 that the unnamed values of place j lie on
  abbrev pub value_curves : ℕ → List (List ℕ)
  value_curves j = filter (λ g. list_all (passes C g) (map (value_point j) unnamed)) (polynomials C.size f.k)

  -- the questions before anything is named, for the contents of the key buffer and of the names buffer
  abbrev pub early_questions : List ℕ → List ℕ → List (Bool × ℕ)
  early_questions key names =
      ((length key == f.d), 31)
      ∷ (nat_le f.n (length names), 32)
      ∷ (nat_le f.k (length (lying cards)), 33)
      ∷ (list_all (λ j. leb 1 (length (fitting_at j))) (places f), 34)
      ∷ (list_all (λ j. leb (length (fitting_at j)) 1) (places f), 35)
      ∷ []

  -- the questions afterwards
  abbrev pub late_questions : List (Bool × ℕ)
  late_questions = (nat_le f.k (length unnamed), 36) ∷ (list_all (λ j. leb 1 (length (value_curves j))) (places f), 37) ∷ []

  -- each symbol of the key is the value at zero of the polynomial that the unnamed values lie on
  abbrev pub new_key : List ℕ
  new_key = map (λ j. polynomial_value C (slice_index_or (value_curves j) 0 []) 0) (places f)

  -- the names at the front, and 0 in every place behind them
  abbrev pub new_names : List ℕ → List ℕ
  new_names names = named ++ replicate (length names - length named) 0

  -- by the early refusal and the late refusal, if any
  abbrev pub concluded : Option ℕ → Option ℕ → List ℕ → List ℕ → Opening
  concluded (Some e) late key names = record { answer = Err (e, 0); key = key; names = names }
  concluded None (Some e) key names = record { answer = Err (e, length named); key = key; names = new_names names }
  concluded None None key names =
      record { answer = Ok (length (lying cards), length named); key = new_key; names = new_names names }

  -- what open answers and leaves, for what the two buffers hold
  abbrev pub opened : List ℕ → List ℕ → Opening
  opened key names = concluded (first_no (early_questions key names)) (first_no late_questions) key names

-- with m cards lying, open passes its first three questions
pub record FirstThree (f : Figures) (m : ℕ) (key names : List ℕ) : Type 0 where
  pub key_room : length key ≡ f.d
  pub names_room : f.n ≤ length names
  pub enough : f.k ≤ m
