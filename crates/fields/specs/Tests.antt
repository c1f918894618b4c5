-- Tests that the prover computes at every number below a bound.
-- Assumes nothing.
use Rattle.std.specs.Prelude.{◌≡◌, ℕ, zero, suc, ◌<◌, Bool, true, false, cond, not, T, ◌==◌, ◌≢◌, nat_eq}
use Rattle.std.proofs.Common.{sym, subst, ⊎_elim, eq-or-lt_of_le, le_of_suc-le-suc, not-suc-le-zero, eqb→eq, T_not}
use Rattle.std.proofs.Math.Dec.{eqb_refl}

-- the test passes at each number below n
unfoldable pub all_below : ℕ → (ℕ → Bool) → Bool
all_below zero f = true
all_below (suc n) f = cond (f n) (all_below n f) false

first : (a b : Bool) → T (cond a b false) → T a
first true b t = tt
first false b t = t

second : (a b : Bool) → T (cond a b false) → T b
second true b t = t
second false b t = absurd t

pub at_each : (f : ℕ → Bool) (n : ℕ) → T (all_below n f) → (k : ℕ) → k < n → T (f k)
unfolding all_below
at_each f zero t k h = absurd (not-suc-le-zero h)
at_each f (suc n) t k h =
    ⊎_elim (λ e. subst (λ (m : ℕ). T (f m)) (sym e) (first (f n) (all_below n f) t))
    (λ l. at_each f n (second (f n) (all_below n f) t) k l)
    (eq-or-lt_of_le (le_of_suc-le-suc h))

-- the two functions agree below n
pub equal_below : (f g : ℕ → ℕ) (n : ℕ) → T (all_below n (λ k. nat_eq (f k) (g k))) → (k : ℕ) → k < n → f k ≡ g k
equal_below f g n t k h = eqb→eq (f k) (g k) (at_each (λ k. nat_eq (f k) (g k)) n t k h)

-- they agree nowhere below n
pub apart_below : (f g : ℕ → ℕ) (n : ℕ) → T (all_below n (λ k. not (f k == g k))) → (k : ℕ) → k < n → f k ≢ g k
apart_below f g n t k h e =
    T_not (f k == g k) (at_each (λ k. not (f k == g k)) n t k h) (subst (λ (m : ℕ). T (f k == m)) e (eqb_refl (f k)))
