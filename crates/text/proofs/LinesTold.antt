-- The questions that follow the lines, by what the lines tell.
-- Assumes nothing.
use Rattle.std.proofs.Common.{◌≡◌, ℕ, ◌^◌, ◌<◌, Some, None, Ok, Option, decimal, refl, sym}
use Rattle.text.specs.Card.{answer, named_field, settled}
use Rattle.text.specs.Lines.{field_name}
use Rattle.text.specs.Numbers.{numbers_in, optional_numbers_in}
use Rattle.text.specs.Parts.{contents, list_text, optional_text, optional_numbers}
use Rattle.text.specs.Sheet.{sheet_answer, sheet_settled}
use Rattle.text.specs.declared.numbers.NumberList.{NumberList}
use Rattle.text.specs.declared.types.FieldName.{FieldName}
use Rattle.text.specs.declared.types.FieldName.TheVariants.{Byte, P251}
use Rattle.text.specs.declared.types.Lines.{Lines}
use Rattle.text.proofs.NumbersBack.{read_back, optional_back}

-- a field's name is read as that field
pub named_back : (field : FieldName) → named_field (field_name field) ≡ field
named_back Byte = refl
named_back P251 = refl

optional_is : (list : Option NumberList) → optional_numbers_in (optional_text list) ≡ optional_numbers list
optional_is None = refl
optional_is (Some list) = optional_back list.text.now list.list

-- the numbers of the lines fit into 64 bits
pub record AreSmall {S V : Type 0} (l : Lines S V) : Type 0 where
  pub n : l.n < 2 ^ 64
  pub k : l.k < 2 ^ 64
  pub t : l.t < 2 ^ 64
  pub d : l.d < 2 ^ 64

pub card_told : (l : Lines ℕ NumberList) → AreSmall l → l.sixth < 2 ^ 64
    → answer l.field l.n l.k l.t l.d l.sixth (numbers_in l.seventh.text.now) (numbers_in l.eighth.text.now) l.rest.now ≡ settled (Ok (contents decimal list_text l, l.rest.now))
card_told l small sixth =
    sym (λ j. answer (named_back l.field j) (read_back l.n small.n j) (read_back l.k small.k j) (read_back l.t small.t j) (read_back l.d small.d j) (read_back l.sixth sixth j)
    (numbers_in l.seventh.text.now) (numbers_in l.eighth.text.now) l.rest.now)

pub sheet_lines_told : (l : Lines NumberList (Option NumberList)) → AreSmall l
    → sheet_answer l.field l.n l.k l.t l.d (numbers_in l.sixth.text.now) (optional_numbers l.seventh) (numbers_in l.eighth.text.now) l.rest.now ≡ sheet_settled (Ok (contents list_text optional_text l, l.rest.now))
sheet_lines_told l small =
    sym (λ j. sheet_answer (named_back l.field j) (read_back l.n small.n j) (read_back l.k small.k j) (read_back l.t small.t j) (read_back l.d small.d j)
    (numbers_in l.sixth.text.now) (optional_is l.seventh j) (numbers_in l.eighth.text.now) l.rest.now)
