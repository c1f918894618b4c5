-- Theorems on the opening of one table, whatever calls led to it.
-- Assumes nothing.
use Rattle.std.specs.Prelude.{◌≡◌, ℕ, ◌<◌, ◌≤◌, List, [], length, replicate, Ok, Err, ◌≢◌}
use Rattle.std.specs.List.{AllByRecursion}
use Rattle.fields.specs.Laws.{Codes, DoublableLaws}
use Rattle.scheme.specs.declared.types.Figures.{Figures}
use Rattle.runs.specs.Cards.{Cards, lying, RightTable}
use Rattle.runs.specs.Opening.{fitting_at, opened, FirstThree}
use Rattle.runs.specs.Law.{Deal, dealt_card}

-- past its first three questions open refuses with 34 exactly where no polynomial fits at some place, and never with 35, since at
-- each place at most one fits
pub record Settles (C : Codes) (u v : ℕ) (f : Figures) (cards : Cards) (key names : List ℕ) : Type 0 where
  pub at_most_one_fits : (j : ℕ) → length (fitting_at C u v f cards j) ≤ 1
  pub none_fits_refused : (j : ℕ) → j < f.d → fitting_at C u v f cards j ≡ []
      → opened C u v f cards key names ≡ record { answer = Err (34, 0); key = key; names = names }
  pub refused_none_fits : (count : ℕ) → (opened C u v f cards key names).answer ≡ Err (34, count)
      → (j : ℕ) × (j < f.d) × (fitting_at C u v f cards j ≡ [])
  pub never_two_fit : (count : ℕ) → (opened C u v f cards key names).answer ≢ Err (35, count)

abbrev pub FittingSettles : Type 0
FittingSettles =
    (C : Codes) (u v : ℕ) → DoublableLaws C u v → (f : Figures) (cards : Cards) → RightTable C f cards
    → (key names : List ℕ) → FirstThree f (length (lying cards)) key names → Settles C u v f cards key names

-- any k or more cards as dealt, lying alone, open to the key with no name
abbrev pub DealtCardsOpen : Type 0
DealtCardsOpen =
    (D : Deal) (cards : Cards) → length cards ≡ D.figures.n → AllByRecursion (λ a. a.1 ≡ dealt_card D a.0) (lying cards)
    → (buffer names : List ℕ) → FirstThree D.figures (length (lying cards)) buffer names
    → opened D.codes D.u D.v D.figures cards buffer names
    ≡ record { answer = Ok (length (lying cards), 0); key = D.key; names = replicate (length names) 0 }
