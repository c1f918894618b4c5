-- What passing the questions tells of a card.
-- Assumes nothing.
use Rattle.std.proofs.Common.{◌≡◌, ℕ, ◌*◌, ◌<◌, ◌≤◌, List, length, None, lit≤}
use Rattle.std.specs.List.{AllByRecursion}
use Rattle.std.proofs.lemmas.Bool.{and_parts, eqb-true, leb-true, ltb-true}
use Rattle.scheme.specs.declared.types.Figures.{Figures}
use Rattle.scheme.specs.declared.types.Pair.{Pair}
use Rattle.scheme.proofs.Acceptance.{all_yes}
use Rattle.scheme.proofs.Asking.{all_from_every}
use Rattle.runs.specs.Cards.{card_questions, card_refusal, is_coded_pair}
use Rattle.text.specs.Card.{codes_of}
use Rattle.text.specs.declared.types.FieldName.{FieldName}
use Rattle.text.specs.declared.types.FieldName.TheVariants.{Byte, P251}

pub size_small : (field : FieldName) → (codes_of field).size ≤ 256
size_small Byte = lit≤ tt
size_small P251 = lit≤ tt

-- what passing the questions tells of a card
pub record Passed (field : FieldName) (f : Figures) (number : ℕ) (card : List Pair) : Type 0 where
  pub from_one : 1 ≤ number
  pub to_n : number ≤ f.n
  pub pairs : length card ≡ f.d
  pub codes : AllByRecursion (λ pair. (pair.value < (codes_of field).size) × (pair.tag < (codes_of field).size * (codes_of field).size)) card

module _ (field : FieldName) (f : Figures) (number : ℕ) (card : List Pair) (unrefused : card_refusal (codes_of field) f number card ≡ None) where
  pub passed : Passed field f number card
  passed =
      let answers = all_yes (card_questions (codes_of field) f number card) unrefused in
      let range = and_parts _ _ answers.0 in
      record {
        from_one = leb-true _ _ range.0;
        to_n = leb-true _ _ range.1;
        pairs = eqb-true _ _ answers.1.0;
        codes = all_from_every (is_coded_pair (codes_of field)) _ (λ pair t. let p = and_parts _ _ t in (ltb-true _ _ p.0, ltb-true _ _ p.1)) card answers.1.1.0;
      }
