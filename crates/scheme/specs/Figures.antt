-- The figures of a scheme: n participants, the threshold k, the number t of altered shares to be borne, and the key's length d
-- in symbols.
-- Assumes nothing.
use Rattle.std.specs.Prelude.{ℕ, ◌+◌, ◌*◌, Bool, ◌&&◌, List, [], ◌∷◌, Result, nat_le}
use Rattle.std.specs.Result.{result_map_both}
use Rattle.scheme.specs.Questions.{first_no, unless}
use Rattle.scheme.specs.declared.types.Figures.{Figures}
use Rattle.scheme.specs.declared.types.FiguresFault.{FiguresFault}
use Rattle.scheme.specs.declared.types.FiguresFault.TheVariants.{Participants, Threshold, Altered, KeyLength}

-- the questions of the call `figures`
abbrev pub figures_questions : ℕ → ℕ → ℕ → ℕ → List (Bool × ℕ)
figures_questions n k t d =
    (nat_le 1 n && nat_le n 32, 11) ∷ (nat_le 1 k && nat_le k n, 12) ∷ (nat_le (3 * t + 1) k, 13) ∷ (nat_le 1 d && nat_le d 64, 14) ∷ []

-- the number of each refusal
abbrev pub figures_number : FiguresFault → ℕ
figures_number Participants = 11
figures_number Threshold = 12
figures_number Altered = 13
figures_number KeyLength = 14

-- the four numbers, or the number of the refusal, that an answer tells
abbrev pub figures_told : Result Figures FiguresFault → Result (ℕ × ℕ × ℕ × ℕ) ℕ
figures_told = result_map_both (λ f. (f.n, f.k, f.t, f.d)) figures_number

-- what the call `figures` tells
abbrev pub figures_answer : ℕ → ℕ → ℕ → ℕ → Result (ℕ × ℕ × ℕ × ℕ) ℕ
figures_answer n k t d = unless (first_no (figures_questions n k t d)) (n, k, t, d)
