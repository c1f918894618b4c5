-- Reader and writer undo one another.
-- Assumes nothing.
use Rattle.std.specs.Prelude.{◌≡◌, ℕ, ◌≤◌, List, length, None, Ok}
use Rattle.scheme.specs.declared.types.Figures.{Figures}
use Rattle.runs.specs.Cards.{Card, card_refusal}
use Rattle.text.specs.Card.{Reading, codes_of, card_text, read_card}
use Rattle.text.specs.declared.types.FieldName.{FieldName}

-- what a reader should tell of a card's text
abbrev pub reading_for : FieldName → Figures → ℕ → Card → Reading
reading_for field f number card = record { field = field; figures = (f.n, f.k, f.t, f.d); number = number; card = card }

-- a text and its reading: the reading is of figures that pass and a card that passes, and their text is that text
pub record WrittenBack (text : List ℕ) (r : Reading) : Type 0 where
  pub figures : Figures
  pub reads : r ≡ reading_for r.field figures r.number r.card
  pub passes : card_refusal (codes_of r.field) figures r.number r.card ≡ None
  pub unchanged : card_text r.field figures r.number r.card ≡ text

pub record TextsRoundTrip : Type 0 where
  -- the text of every card that passes its questions fits into 1,024 bytes
  pub fits : (field : FieldName) (f : Figures) (number : ℕ) (card : Card) → card_refusal (codes_of field) f number card ≡ None
      → length (card_text field f number card) ≤ 1024
  -- writing a card and reading the text gives that field, those figures, that number and that card
  pub written_is_read : (field : FieldName) (f : Figures) (number : ℕ) (card : Card) → card_refusal (codes_of field) f number card ≡ None
      → read_card (card_text field f number card) ≡ Ok (reading_for field f number card)
  -- an accepted text is written back unchanged
  pub read_is_written : (text : List ℕ) (r : Reading) → read_card text ≡ Ok r → WrittenBack text r
