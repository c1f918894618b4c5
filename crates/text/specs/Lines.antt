-- The lines of a text: a key with an equals sign, a content, and a byte 10.
-- Assumes nothing.
use Rattle.std.specs.Prelude.{ℕ, suc, Bool, not, ◌||◌, List, [], ◌∷◌, ◌++◌, length, take, drop, Ok, Err, codes, Result, ◌==◌}
use Rattle.scheme.specs.Questions.{first_no, unless}
use Rattle.std.specs.Char.{is_ascii_digit}
use Rattle.std.specs.List.{prefix_len}
use Rattle.std.specs.Result.{result_map_both}
use Rattle.std.specs.Str.{bytes_eq}
use Rattle.text.specs.Numbers.{is_number, is_list}
use Rattle.text.specs.declared.types.FieldName.{FieldName}
use Rattle.text.specs.declared.types.FieldName.TheVariants.{Byte, P251}
use Rattle.text.specs.declared.types.Key.{Key}
use Rattle.text.specs.declared.types.Key.TheVariants.{Field, Participants, Threshold, Altered, Symbols, Card, Values, Tags, Secret, ValueCoefficients, TagCoefficients}

abbrev pub field_name : FieldName → List ℕ
field_name Byte = codes "byte"
field_name P251 = codes "p251"

-- the fixed bytes that a line begins with
abbrev pub key_word : Key → List ℕ
key_word Field = codes "field="
key_word Participants = codes "n="
key_word Threshold = codes "k="
key_word Altered = codes "t="
key_word Symbols = codes "d="
key_word Card = codes "card="
key_word Values = codes "v="
key_word Tags = codes "g="
key_word Secret = codes "key="
key_word ValueCoefficients = codes "a="
key_word TagCoefficients = codes "c="

-- what can stand behind a key
pub data Kind : Type 0 where
  -- the name of a field
  Name : Kind
  -- one number
  Number : Kind
  -- numbers that are separated by commas
  Numbers : Kind
  -- such numbers, or nothing
  OptionalNumbers : Kind

-- what stands behind the key
abbrev pub kind_of : Key → Kind
kind_of Field = Name
kind_of Participants = Number
kind_of Threshold = Number
kind_of Altered = Number
kind_of Symbols = Number
kind_of Card = Number
kind_of Values = Numbers
kind_of Tags = Numbers
kind_of Secret = Numbers
kind_of ValueCoefficients = OptionalNumbers
kind_of TagCoefficients = Numbers

-- the bytes that a content can have: it is the longest run of such bytes
abbrev pub in_content : Kind → ℕ → Bool
in_content Name b = not (b == 10)
in_content Number b = is_ascii_digit b
in_content Numbers b = is_ascii_digit b || b == 44
in_content OptionalNumbers b = is_ascii_digit b || b == 44

-- the run is such a content
abbrev pub is_content : Kind → List ℕ → Bool
is_content Name run = bytes_eq run (field_name Byte) || bytes_eq run (field_name P251)
is_content Number run = is_number run
is_content Numbers run = is_list run
is_content OptionalNumbers run = length run == 0 || is_list run

abbrev pub begins : List ℕ → List ℕ → Bool
begins front text = bytes_eq (take (length front) text) front

-- the line of this key at the front of the text, which is line number `at`: its content, and what follows the line
abbrev pub line : ℕ → Key → List ℕ → Result (List ℕ × List ℕ) (ℕ × ℕ)
line at key text =
    let behind = drop (length (key_word key)) text in
    let end = prefix_len (in_content (kind_of key)) behind in
    unless (first_no (
    (begins (key_word key) text, (52, at))
    ∷ (is_content (kind_of key) (take end behind), (53, at))
    ∷ (begins (10 ∷ []) (drop end behind), (54, at))
    ∷ []))
    (take end behind, drop 1 (drop end behind))

abbrev pub with_content : List ℕ → Result (List (List ℕ) × List ℕ) (ℕ × ℕ) → Result (List (List ℕ) × List ℕ) (ℕ × ℕ)
with_content content = result_map_both (λ others. (content ∷ others.0, others.1)) (λ e. e)

abbrev pub and_then : Result (List ℕ × List ℕ) (ℕ × ℕ) → (List ℕ → Result (List (List ℕ) × List ℕ) (ℕ × ℕ)) → Result (List (List ℕ) × List ℕ) (ℕ × ℕ)
and_then (Ok l) others = with_content l.0 (others l.1)
and_then (Err e) others = Err e

-- the lines of these keys, from line number `at` on: their contents, and what follows the last
abbrev pub lines : ℕ → List Key → List ℕ → Result (List (List ℕ) × List ℕ) (ℕ × ℕ)
lines at [] text = Ok ([], text)
lines at (key ∷ keys) text = and_then (line at key text) (lines (suc at) keys)

abbrev pub written_line : Key → List ℕ → List ℕ
written_line key content = key_word key ++ (content ++ (10 ∷ []))

-- the text of lines with these keys and contents
abbrev pub written : List Key → List (List ℕ) → List ℕ
written [] contents = []
written (key ∷ keys) [] = []
written (key ∷ keys) (content ∷ contents) = written_line key content ++ written keys contents

-- the five lines that tell of a scheme, and three more
abbrev pub keys_with : Key → Key → Key → List Key
keys_with sixth seventh eighth = Field ∷ Participants ∷ Threshold ∷ Altered ∷ Symbols ∷ sixth ∷ seventh ∷ eighth ∷ []
