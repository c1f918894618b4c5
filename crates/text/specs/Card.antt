-- The text of a card: eight lines. What the reader tells of a text, and what the writer writes.
-- Assumes nothing.
use Rattle.std.specs.Prelude.{ℕ, ◌*◌, Bool, cond, ◌&&◌, List, [], ◌∷◌, ◌++◌, map, length, drop, is_ok, Some, None, Ok, Err, decimal, Option, Result, ◌==◌, nat_le, slice_index_or}
use Rattle.std.specs.List.{zip}
use Rattle.std.specs.Option.{option_map}
use Rattle.std.specs.Result.{result_ok}
use Rattle.std.specs.Str.{bytes_eq}
use Rattle.fields.specs.Laws.{Codes}
use Rattle.fields.specs.Byte.{byte}
use Rattle.fields.specs.P251.{p251}
use Rattle.scheme.specs.Figures.{figures_answer}
use Rattle.scheme.specs.Questions.{first_no, all_codes, unless}
use Rattle.scheme.specs.declared.types.Figures.{Figures}
use Rattle.scheme.specs.declared.types.Pair.{Pair}
use Rattle.runs.specs.Cards.{Card as Pairs, card_questions}
use Rattle.text.specs.Lines.{field_name, keys_with, lines, written}
use Rattle.text.specs.Numbers.{digits_value, numbers_in, listed}
use Rattle.text.specs.declared.types.FieldName.{FieldName}
use Rattle.text.specs.declared.types.FieldName.TheVariants.{Byte, P251}
use Rattle.text.specs.declared.types.Key.{Key}
use Rattle.text.specs.declared.types.Key.TheVariants.{Card, Values, Tags}

abbrev pub codes_of : FieldName → Codes
codes_of Byte = byte
codes_of P251 = p251

-- the elements u and v that double it
abbrev pub u_of : FieldName → ℕ
u_of Byte = 1
u_of P251 = 0

abbrev pub v_of : FieldName → ℕ
v_of Byte = 0x20
v_of P251 = 250

-- the field that is named, where the line has settled that the name is one of the two
abbrev pub named_field : List ℕ → FieldName
named_field name = cond (bytes_eq name (field_name Byte)) Byte P251

abbrev pub card_keys : List Key
card_keys = keys_with Card Values Tags

-- values and tags, pair by pair
abbrev pub paired : List ℕ → List ℕ → Pairs
paired values tags = map (λ both. record { value = both.0; tag = both.1 }) (zip values tags)

-- what a text tells: the field, n, k, t and d, whose card it is, and the card
pub record Reading : Type 0 where
  pub field : FieldName
  pub figures : ℕ × ℕ × ℕ × ℕ
  pub number : ℕ
  pub card : Pairs

-- what the eight lines tell, where `rest` follows line 8
module _ (field : FieldName) (n k t d number : ℕ) (values tags rest : List ℕ) where
  abbrev pub reading : Reading
  reading = record { field = field; figures = (n, k, t, d); number = number; card = paired values tags }

  -- the questions that follow the lines
  abbrev pub reading_questions : List (Bool × (ℕ × ℕ))
  reading_questions =
      let p = (codes_of field).size in
      ((length rest == 0), (55, 9))
      ∷ (is_ok (figures_answer n k t d), (56, 5))
      ∷ (nat_le 1 number && nat_le number n, (57, 6))
      ∷ ((length values == d), (58, 7))
      ∷ ((length tags == d), (58, 8))
      ∷ (all_codes p values, (59, 7))
      ∷ (all_codes (p * p) tags, (59, 8))
      ∷ []

  abbrev pub answer : Result Reading (ℕ × ℕ)
  answer = unless (first_no reading_questions) reading

-- by the contents of the lines
abbrev pub settled : Result (List (List ℕ) × List ℕ) (ℕ × ℕ) → Result Reading (ℕ × ℕ)
settled (Ok l) =
    answer (named_field (slice_index_or l.0 0 []))
    (digits_value (slice_index_or l.0 1 [])) (digits_value (slice_index_or l.0 2 [])) (digits_value (slice_index_or l.0 3 [])) (digits_value (slice_index_or l.0 4 []))
    (digits_value (slice_index_or l.0 5 [])) (numbers_in (slice_index_or l.0 6 [])) (numbers_in (slice_index_or l.0 7 [])) l.1
settled (Err e) = Err e

-- what the reader answers: the reading, or the refusal's number and line
abbrev pub read_card : List ℕ → Result Reading (ℕ × ℕ)
read_card text = cond (nat_le (length text) 1024) (settled (lines 1 card_keys text)) (Err (51, 0))

-- the content of a line, counted from 0, where all eight lines pass
abbrev pub part_of : ℕ → Result (List (List ℕ) × List ℕ) (ℕ × ℕ) → Option (List ℕ)
part_of i lines = option_map (λ l. slice_index_or l.0 i []) (result_ok lines)

-- the contents of the eight lines of a card
abbrev pub card_contents : FieldName → Figures → ℕ → Pairs → List (List ℕ)
card_contents field f number card =
    field_name field
    ∷ decimal f.n
    ∷ decimal f.k
    ∷ decimal f.t
    ∷ decimal f.d
    ∷ decimal number
    ∷ listed (map (λ (pair : Pair). pair.value) card)
    ∷ listed (map (λ (pair : Pair). pair.tag) card)
    ∷ []

-- the text of a card
abbrev pub card_text : FieldName → Figures → ℕ → Pairs → List ℕ
card_text field f number card = written card_keys (card_contents field f number card)

-- the questions of the writer, for a buffer of `room` bytes
abbrev pub write_refusal : FieldName → Figures → ℕ → Pairs → ℕ → Option ℕ
write_refusal field f number card room = first_no (card_questions (codes_of field) f number card ++ ((nat_le 1024 room, 50) ∷ []))

abbrev pub unless_refused : Option ℕ → List ℕ → List ℕ → Result ℕ ℕ × List ℕ
unless_refused (Some e) text buffer = (Err e, buffer)
unless_refused None text buffer = (Ok (length text), text ++ drop (length text) buffer)

-- what the writer answers, and its buffer afterwards
abbrev pub write_card_answer : FieldName → Figures → ℕ → Pairs → List ℕ → Result ℕ ℕ × List ℕ
write_card_answer field f number card buffer =
    unless_refused (write_refusal field f number card (length buffer)) (card_text field f number card) buffer
