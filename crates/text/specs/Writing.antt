-- What is written behind the text of a card so far.
-- Assumes nothing.
use Rattle.std.specs.Prelude.{ℕ, List, [], ◌∷◌, decimal}
use Rattle.scheme.specs.declared.types.Figures.{Figures}
use Rattle.scheme.specs.declared.types.Pair.{Pair}
use Rattle.text.specs.Lines.{field_name, written}
use Rattle.text.specs.declared.types.FieldName.{FieldName}
use Rattle.text.specs.declared.types.Half.{Half}
use Rattle.text.specs.declared.types.Half.TheVariants.{Value, Tag}
use Rattle.text.specs.declared.types.Key.TheVariants.{Field, Participants, Threshold, Altered, Symbols}

-- this number of a pair
abbrev pub picked : Half → Pair → ℕ
picked Value pair = pair.value
picked Tag pair = pair.tag

-- the five lines that tell of a scheme
abbrev pub scheme_lines : FieldName → Figures → List ℕ
scheme_lines field f =
    written (Field ∷ Participants ∷ Threshold ∷ Altered ∷ Symbols ∷ []) (field_name field ∷ decimal f.n ∷ decimal f.k ∷ decimal f.t ∷ decimal f.d ∷ [])
