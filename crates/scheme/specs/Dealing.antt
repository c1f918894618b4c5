-- The dealing of a key of d symbols into n shares. Participants are counted from 1 and places from 0.
-- Assumes nothing.
use Rattle.std.specs.Prelude.{ℕ, ◌+◌, ◌-◌, ◌*◌, Bool, not, ◌&&◌, ◌||◌, List, [], ◌∷◌, map, length, take, drop, Some, None, Ok, Err, Option, Result, ◌==◌, nat_le, slice_index}
use Rattle.std.specs.List.{range_with_len, flat_map, list_all}
use Rattle.std.specs.Option.{option_map}
use Rattle.std.specs.Result.{result_map_both, result_err}
use Rattle.fields.specs.Laws.{Codes}
use Rattle.fields.specs.Doubled.{doubled, join}
use Rattle.scheme.specs.Questions.{first_no, all_codes}
use Rattle.scheme.specs.Polynomial.{polynomial_value}
use Rattle.scheme.specs.declared.types.Figures.{Figures}
use Rattle.scheme.specs.declared.types.Pair.{Pair}
use Rattle.scheme.specs.declared.types.DealFault.{DealFault}
use Rattle.scheme.specs.declared.types.DealFault.TheVariants.{KeySymbols, Coefficients, Buffer, Code, TopCoefficient}

-- the coefficients of place j, where those of each place are s in number and stand place after place
abbrev pub at_place : ℕ → List ℕ → ℕ → List ℕ
at_place s coefficients j = take s (drop (j * s) coefficients)

module _ (f : Figures) where
  abbrev pub participants : List ℕ
  participants = range_with_len 1 f.n

  abbrev pub places : List ℕ
  places = range_with_len 0 f.d

  -- the value polynomial of place j: its key symbol, and then its k - 1 value coefficients
  abbrev pub value_polynomial : List ℕ → List ℕ → ℕ → List ℕ
  value_polynomial key values j = slice_index key j ∷ at_place (f.k - 1) values j

  -- its coefficient of x^(k - 1) is not zero
  abbrev pub has_top : List ℕ → List ℕ → ℕ → Bool
  has_top key values j = not (slice_index (value_polynomial key values j) (f.k - 1) == 0)

  -- the tag polynomial of place j
  abbrev pub tag_polynomial : List ℕ → ℕ → List ℕ
  tag_polynomial tags j = at_place (f.t + 1) tags j

-- over the field C, with u and v that double it
module _ (C : Codes) (u v : ℕ) where
  -- what the value polynomial g and the tag polynomial h give participant i: the value of g at the element with code i, and
  -- the value of h over the doubled field at the point value + i·y
  abbrev pub dealt_pair : List ℕ → List ℕ → ℕ → Pair
  dealt_pair g h i =
      let value = polynomial_value C g i in
      record { value = value; tag = polynomial_value (doubled C u v) h (join C.size value i) }

  module _ (f : Figures) where
    -- participant i's share, where place j has the polynomials g j and h j
    abbrev pub dealt_share : (ℕ → List ℕ) → (ℕ → List ℕ) → ℕ → List Pair
    dealt_share g h i = map (λ j. dealt_pair (g j) (h j) i) (places f)

    -- participant after participant, place after place
    abbrev pub dealt_shares : List ℕ → List ℕ → List ℕ → List Pair
    dealt_shares key values tags =
        flat_map (dealt_share (value_polynomial f key values) (tag_polynomial f tags)) (participants f)

    -- the questions of deal, for a buffer of `room` pairs
    abbrev pub deal_questions : List ℕ → List ℕ → List ℕ → ℕ → List (Bool × ℕ)
    deal_questions key values tags room =
        ((length key == f.d), 15)
        ∷ (length values == f.d * (f.k - 1) && (length tags == f.d * (f.t + 1)), 16)
        ∷ ((room == f.n * f.d), 17)
        ∷ (all_codes C.size key && (all_codes C.size values && all_codes (C.size * C.size) tags), 18)
        ∷ (nat_le f.k 1 || list_all (has_top f key values) (places f), 19)
        ∷ []

    abbrev pub deal_refusal : List ℕ → List ℕ → List ℕ → ℕ → Option ℕ
    deal_refusal key values tags room = first_no (deal_questions key values tags room)

    -- what deal answers, and what its buffer holds afterwards
    abbrev pub settled : Option ℕ → List Pair → List Pair → Result ℕ ℕ × List Pair
    settled (Some e) dealt buffer = (Err e, buffer)
    settled None dealt buffer = (Ok (f.n * f.d), dealt)

    abbrev pub dealing : List ℕ → List ℕ → List ℕ → List Pair → Result ℕ ℕ × List Pair
    dealing key values tags buffer = settled (deal_refusal key values tags (length buffer)) (dealt_shares key values tags) buffer

-- the number of each refusal
abbrev pub deal_number : DealFault → ℕ
deal_number KeySymbols = 15
deal_number Coefficients = 16
deal_number Buffer = 17
deal_number Code = 18
deal_number TopCoefficient = 19

-- the count, or the number of the refusal, that an answer tells
abbrev pub deal_told : Result ℕ DealFault → Result ℕ ℕ
deal_told = result_map_both (λ count. count) deal_number

-- the number of the refusal, if any, that an answer tells
abbrev pub refusal_told : {A : Type 0} → Result A DealFault → Option ℕ
refusal_told answer = option_map deal_number (result_err answer)
