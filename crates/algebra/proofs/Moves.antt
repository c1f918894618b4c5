-- The step of the decoder in each of its four cases, and how many coefficients the ratios of a run have at most.
-- Assumes nothing.
use Rattle.std.proofs.Common.{◌≡◌, ℕ, suc, ◌+◌, ◌<◌, ◌≤◌, Bool, true, false, ltb, List, [], ◌∷◌, length, arith}
use Rattle.algebra.specs.Field.{Field}
use Rattle.algebra.specs.Polynomial.{plus, scale, times_root}
use Rattle.algebra.specs.Decoder.{State, raise, plus_multiple, discrepancy, move, step, run}
use Rattle.algebra.proofs.Polynomials.{times_root_within}
use Rattle.algebra.proofs.Unique.{length_scale, length_plus_le}

module _ {K : Type 0} (X : Field K) (x y : K) (t : ℕ) (s : State X) where
  open X use {zero as 𝟘, mul as ◌⊗◌, neg as ⊖◌, inv, same}

  infixl 70 ◌⊗◌
  infix 80 ⊖◌
  -- the discrepancies of the two ratios at the point (x, y)
  abbrev da : K
  da = discrepancy X {I = Unit {0}} (λ _. x) (λ _. y) s.first tt

  abbrev db : K
  db = discrepancy X {I = Unit {0}} (λ _. x) (λ _. y) s.second tt

  -- whether the first ratio is raised, where neither discrepancy is zero
  abbrev test : Bool
  test = ltb (length s.first.top) (length s.second.bottom + t)

  abbrev next : State X
  next = step X {I = Unit {0}} (λ _. x) (λ _. y) t s tt

  -- the first discrepancy is zero
  pub step_a : da ≡ 𝟘 → next ≡ record { first = s.first; second = raise X x s.second }
  step_a h = grind arith

  -- only the second discrepancy is zero
  pub step_b : (da ≡ 𝟘 → ⊥) → db ≡ 𝟘 → next ≡ record { first = raise X x s.first; second = s.second }
  step_b k h = grind arith

  -- neither is zero, and the first ratio is raised
  pub step_less : (da ≡ 𝟘 → ⊥) → (db ≡ 𝟘 → ⊥) → length s.first.top < length s.second.bottom + t
      → next ≡ record { first = raise X x s.first; second = plus_multiple X s.second (⊖ (db ⊗ inv da)) s.first }
  step_less k h l = grind arith

  -- neither is zero, and the second ratio is raised
  pub step_more : (da ≡ 𝟘 → ⊥) → (db ≡ 𝟘 → ⊥) → length s.second.bottom + t ≤ length s.first.top
      → next ≡ record { first = plus_multiple X s.first (⊖ (da ⊗ inv db)) s.second; second = raise X x s.second }
  step_more k h l = grind arith

module _ {K : Type 0} (X : Field K) where
  -- no polynomial of the state has more than n coefficients
  abbrev pub Short : ℕ → State X → Type 0
  Short n s =
      (length s.first.top ≤ n) × (length s.first.bottom ≤ n) × (length s.second.top ≤ n) × (length s.second.bottom ≤ n)

  module _ {I : Type 0} (x y : I → K) (t : ℕ) where
    pub step_short : (n : ℕ) (s : State X) (i : I) → Short n s → Short (suc n) (step X x y t s i)
    step_short n s i h =
        go (X.same (discrepancy X x y s.first i) X.zero) (X.same (discrepancy X x y s.second i) X.zero)
        (ltb (length s.first.top) (length s.second.bottom + t))
      where
        raised : (f : List K) → length f ≤ n → length (times_root X (x i) f) ≤ suc n
        raised f l = times_root_within X (x i) f n l

        added : (c : K) (f g : List K) → length f ≤ n → length g ≤ n → length (plus X f (scale X c g)) ≤ suc n
        added c f g lf lg = let h = length_plus_le X n f (scale X c g) lf (omega (arith, length_scale X c g)) in omega arith

        go : (e : Dec (discrepancy X x y s.first i ≡ X.zero)) (f : Dec (discrepancy X x y s.second i ≡ X.zero)) (b : Bool)
            → Short (suc n) (move X s (x i) (discrepancy X x y s.first i) (discrepancy X x y s.second i) e f b)
        go (yes e) f b = omega (arith, raised)
        go (no m) (yes f) b = omega (arith, raised)
        go (no m) (no k) true = omega (arith, raised, added)
        go (no m) (no k) false = omega (arith, raised, added)

    pub run_short : (is : List I) → Short (suc (length is)) (run X x y t is)
    run_short [] = omega arith
    run_short (i ∷ is) = step_short (suc (length is)) (run X x y t is) i (run_short is)
