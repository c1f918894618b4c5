-- What the structs of lines show.
-- Assumes nothing.
use Rattle.std.specs.Prelude.{ℕ, List, [], ◌∷◌, decimal, Option, Result}
use Rattle.std.specs.Option.{option_map_or}
use Rattle.std.specs.Result.{result_map_both}
use Rattle.text.specs.Faults.{fault_told}
use Rattle.text.specs.Lines.{field_name}
use Rattle.text.specs.Numbers.{numbers_in}
use Rattle.text.specs.declared.numbers.NumberList.{NumberList}
use Rattle.text.specs.declared.types.Line.{Line}
use Rattle.text.specs.declared.types.Lines.{Lines}
use Rattle.text.specs.declared.types.TextFault.{TextFault}

-- the text of a list, and of one that may be missing
abbrev pub list_text : NumberList → List ℕ
list_text list = list.text.now

abbrev pub optional_text : Option NumberList → List ℕ
optional_text list = option_map_or list_text list []

-- the numbers of a list that may be missing
abbrev pub optional_numbers : Option NumberList → List ℕ
optional_numbers list = option_map_or (λ list. numbers_in list.text.now) list []

-- the content, by the text that it stands for, and what follows the line; or the refusal's number and line
abbrev pub line_told : {C : Type 0} → (C → List ℕ) → Result (Line C) TextFault → Result (List ℕ × List ℕ) (ℕ × ℕ)
line_told text = result_map_both (λ l. (text l.content, l.rest.now)) fault_told

-- the texts of the contents in their order
abbrev pub contents : {S V : Type 0} → (S → List ℕ) → (V → List ℕ) → Lines S V → List (List ℕ)
contents sixth seventh l =
    field_name l.field ∷ decimal l.n ∷ decimal l.k ∷ decimal l.t ∷ decimal l.d ∷ sixth l.sixth ∷ seventh l.seventh ∷ list_text l.eighth ∷ []

-- the texts of the contents and what follows the last line, or the refusal's number and line
abbrev pub lines_told : {S V : Type 0} → (S → List ℕ) → (V → List ℕ) → Result (Lines S V) TextFault → Result (List (List ℕ) × List ℕ) (ℕ × ℕ)
lines_told sixth seventh = result_map_both (λ l. (contents sixth seventh l, l.rest.now)) fault_told
