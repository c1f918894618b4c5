-- What questions settle that are answered with yes, and what those of dealing do.
-- Assumes nothing.
use Rattle.std.proofs.Common.{◌≡◌, ℕ, ◌+◌, ◌-◌, ◌*◌, ◌<◌, Bool, true, List, length, [], ◌∷◌, None, refl, ◌∙◌, arith}
use Rattle.std.specs.List.{AllByRecursion}
use Rattle.std.proofs.lemmas.Bool.{and_parts, cond-true, eqb-true}
use Rattle.fields.specs.Laws.{Codes}
use Rattle.scheme.specs.Questions.{first_no}
use Rattle.scheme.specs.Dealing.{deal_questions, deal_refusal}
use Rattle.scheme.specs.declared.types.Figures.{Figures}
use Rattle.scheme.proofs.Asking.{all_from_codes}

-- not refused: every answer is yes
pub all_yes : {R : Type 0} (questions : List (Bool × R)) → first_no questions ≡ None → AllByRecursion (λ q. q.0 ≡ true) questions
all_yes [] e = tt
all_yes (q ∷ questions) e = grind (arith, all_yes questions)

-- every answer is yes: no refusal
pub no_refusal : {R : Type 0} (questions : List (Bool × R)) → AllByRecursion (λ q. q.0 ≡ true) questions → first_no questions ≡ None
no_refusal [] h = refl
no_refusal (q ∷ questions) h = cond-true q.0 _ _ h.0 ∙ no_refusal questions h.1

-- the facts that the questions settle
pub record Accepted (C : Codes) (f : Figures) (key values tags : List ℕ) : Type 0 where
  pub key_length : length key ≡ f.d
  pub values_length : length values ≡ f.d * (f.k - 1)
  pub tags_length : length tags ≡ f.d * (f.t + 1)
  pub key_codes : AllByRecursion (λ a. a < C.size) key
  pub values_codes : AllByRecursion (λ a. a < C.size) values
  pub tags_codes : AllByRecursion (λ a. a < C.size * C.size) tags

pub accepted : (C : Codes) (u v : ℕ) (f : Figures) (key values tags : List ℕ) (room : ℕ) → deal_refusal C u v f key values tags room ≡ None
    → Accepted C f key values tags × (room ≡ f.n * f.d)
accepted C u v f key values tags room e =
    let yes = all_yes (deal_questions C u v f key values tags room) e in
    let counts = and_parts _ _ yes.1.0 in
    let codes = and_parts _ _ yes.1.1.1.0 in
    let rest = and_parts _ _ codes.1 in (
      record {
        key_length = eqb-true _ _ yes.0;
        values_length = eqb-true _ _ counts.0;
        tags_length = eqb-true _ _ counts.1;
        key_codes = all_from_codes C.size key codes.0;
        values_codes = all_from_codes C.size values rest.0;
        tags_codes = all_from_codes (C.size * C.size) tags rest.1;
      },
      eqb-true _ _ yes.1.1.0,
    )
