-- How a run begins.
-- Assumes nothing.
use Rattle.std.proofs.Common.{◌≡◌, sym, refl, subst, inl, inr}
use Rattle.runs.specs.Runs.{Run, start, ◌then◌, Each, Beginning}

-- a run begins with all of itself
pub whole : {A : Type 0} (run : Run A) → Beginning run run
whole start = refl
whole (run then a) = inl refl

-- what is before one of its things is a beginning
pub before : {A : Type 0} (past run : Run A) (a : A) → Beginning (past then a) run → Beginning past run
before past start a e = cc
before past (run then b) a (inl e) = let same : run ≡ past = cc in inr (subst (λ r. Beginning r run) same (whole run))
before past (run then b) a (inr e) = inr (before past run a e)

-- what holds of each thing of a run holds of each at its beginning
pub each_beginning : {A : Type 0} (P : A → Type 0) (past run : Run A) → Beginning past run → Each P run → Each P past
each_beginning P past start e h = subst (Each P) (sym e) h
each_beginning P past (run then a) (inl e) h = subst (Each P) (sym e) h
each_beginning P past (run then a) (inr e) h = each_beginning P past run e h.0
