-- Questions that a call puts in their order, each with the refusal that stands for a no: a number, or a number and a line.
-- Assumes nothing.
use Rattle.std.specs.Prelude.{ℕ, Bool, cond, List, [], ◌∷◌, Some, None, Ok, Err, Option, Result, nat_lt}
use Rattle.std.specs.List.{list_all}

-- the refusal of the first question whose answer is no
abbrev pub first_no : {R : Type 0} → List (Bool × R) → Option R
first_no [] = None
first_no (q ∷ questions) = cond q.0 (first_no questions) (Some q.1)

-- Ok a unless refused
abbrev pub unless : {R A : Type 0} → Option R → A → Result A R
unless None a = Ok a
unless (Some e) a = Err e

-- every number is below the size of its field
abbrev pub all_codes : ℕ → List ℕ → Bool
all_codes size codes = list_all (λ a. nat_lt a size) codes
