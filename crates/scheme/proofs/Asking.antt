-- A question that is asked of each element of a list.
-- Assumes nothing.
use Rattle.std.proofs.Common.{◌≡◌, ℕ, ◌<◌, Bool, true, ltb, List, [], ◌∷◌, take, drop, sym, ap, ◌∙◌}
use Rattle.std.specs.List.{AllByRecursion, list_all}
use Rattle.std.proofs.lemmas.List.{take-append-drop}
use Rattle.std.proofs.lemmas.List.Folds.{list_all-append}
use Rattle.std.proofs.lemmas.Bool.{and_parts, ltb-true}
use Rattle.scheme.specs.Questions.{all_codes}

-- what passes throughout passes in each part
pub all_part : {A : Type 0} (test : A → Bool) (n m : ℕ) (list : List A) → list_all test list ≡ true → list_all test (take n (drop m list)) ≡ true
all_part test n m list e = (halves n (drop m list) (halves m list e).1).0
  where
    halves : (i : ℕ) (l : List _) → list_all test l ≡ true → (list_all test (take i l) ≡ true) × (list_all test (drop i l) ≡ true)
    halves i l e = and_parts _ _ (sym (list_all-append test (take i l) (drop i l)) ∙ ap (list_all test) (take-append-drop i l) ∙ e)

pub all_from_every : {A : Type 0} (test : A → Bool) (P : A → Type 0) → ((a : A) → test a ≡ true → P a) → (list : List A) → list_all test list ≡ true → AllByRecursion P list
all_from_every test P f [] e = tt
all_from_every test P f (a ∷ list) e =
    let p = and_parts (test a) (list_all test list) e in (f a p.0, all_from_every test P f list p.1)

pub all_from_codes : (size : ℕ) (codes : List ℕ) → all_codes size codes ≡ true → AllByRecursion (λ a. a < size) codes
all_from_codes size codes e = all_from_every (λ a. ltb a size) (λ a. a < size) (λ a t. ltb-true a size t) codes e
