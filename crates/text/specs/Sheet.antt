-- A dealing sheet: eight lines that tell what `deal` takes.
-- Assumes nothing.
use Rattle.std.specs.Prelude.{ℕ, ◌+◌, ◌-◌, ◌*◌, Bool, cond, ◌&&◌, List, [], ◌∷◌, length, take, Ok, Err, Result, ◌==◌, nat_le, slice_index_or}
use Rattle.std.specs.Result.{result_map_both}
use Rattle.scheme.specs.Questions.{first_no, unless}
use Rattle.scheme.specs.Dealing.{deal_number}
use Rattle.scheme.specs.Figures.{figures_answer, figures_number}
use Rattle.text.specs.Card.{named_field}
use Rattle.text.specs.Faults.{fault_told}
use Rattle.text.specs.Lines.{keys_with, lines}
use Rattle.text.specs.Numbers.{digits_value, numbers_in, optional_numbers_in}
use Rattle.text.specs.declared.types.FieldName.{FieldName}
use Rattle.text.specs.declared.types.Key.{Key}
use Rattle.text.specs.declared.types.Key.TheVariants.{Secret, ValueCoefficients, TagCoefficients}
use Rattle.text.specs.declared.types.Sheet.{Sheet}
use Rattle.text.specs.declared.types.SheetFault.{SheetFault}
use Rattle.text.specs.declared.types.SheetFault.TheVariants.{TooLong, Line, Figures, Deal}

abbrev pub sheet_keys : List Key
sheet_keys = keys_with Secret ValueCoefficients TagCoefficients

-- what a sheet tells: the field, n, k, t and d, the key's symbols, the value coefficients and the tag coefficients
pub record DealingSheet : Type 0 where
  pub field : FieldName
  pub figures : ℕ × ℕ × ℕ × ℕ
  pub key : List ℕ
  pub values : List ℕ
  pub tags : List ℕ

module _ (field : FieldName) (n k t d : ℕ) (key values tags : List ℕ) where
  -- the lists have the lengths that the figures ask for
  abbrev pub sheet_questions : List (Bool × (ℕ × ℕ))
  sheet_questions =
      ((length key == d), (15, 0))
      ∷ (length values == d * (k - 1) && (length tags == d * (t + 1)), (16, 0))
      ∷ []

  abbrev pub with_figures : Result (ℕ × ℕ × ℕ × ℕ) ℕ → Result DealingSheet (ℕ × ℕ)
  with_figures (Ok f) = unless (first_no sheet_questions) (record { field = field; figures = f; key = key; values = values; tags = tags })
  with_figures (Err e) = Err (e, 0)

  abbrev pub sheet_answer : List ℕ → Result DealingSheet (ℕ × ℕ)
  sheet_answer rest = cond (length rest == 0) (with_figures (figures_answer n k t d)) (Err (55, 9))

abbrev pub sheet_settled : Result (List (List ℕ) × List ℕ) (ℕ × ℕ) → Result DealingSheet (ℕ × ℕ)
sheet_settled (Ok l) =
    sheet_answer (named_field (slice_index_or l.0 0 []))
    (digits_value (slice_index_or l.0 1 [])) (digits_value (slice_index_or l.0 2 [])) (digits_value (slice_index_or l.0 3 [])) (digits_value (slice_index_or l.0 4 []))
    (numbers_in (slice_index_or l.0 5 [])) (optional_numbers_in (slice_index_or l.0 6 [])) (numbers_in (slice_index_or l.0 7 [])) l.1
sheet_settled (Err e) = Err e

-- what the reader of sheets answers: the sheet, or the refusal's number and line, which is 0 for the refusals of calls
abbrev pub read_sheet_answer : List ℕ → Result DealingSheet (ℕ × ℕ)
read_sheet_answer text = cond (nat_le (length text) 16384) (sheet_settled (lines 1 sheet_keys text)) (Err (51, 0))

-- the number and line of each refusal
abbrev pub sheet_fault_told : SheetFault → ℕ × ℕ
sheet_fault_told TooLong = (51, 0)
sheet_fault_told (Line e) = fault_told e
sheet_fault_told (Figures e) = (figures_number e, 0)
sheet_fault_told (Deal e) = (deal_number e, 0)

-- what the struct shows: the front of each array
abbrev pub sheet_shown : Sheet → DealingSheet
sheet_shown s = record {
  field = s.field;
  figures = (s.figures.n, s.figures.k, s.figures.t, s.figures.d);
  key = take s.figures.d s.key;
  values = take (s.figures.d * (s.figures.k - 1)) s.values;
  tags = take (s.figures.d * (s.figures.t + 1)) s.tags;
}

abbrev pub sheet_told : Result Sheet SheetFault → Result DealingSheet (ℕ × ℕ)
sheet_told = result_map_both sheet_shown sheet_fault_told
