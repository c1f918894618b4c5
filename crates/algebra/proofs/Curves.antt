-- How many lists have s elements, and how many polynomials pass through given points.
-- Assumes nothing.
use Rattle.std.proofs.Common.{◌≡◌, ℕ, zero, suc, ◌+◌, ◌^◌, List, [], ◌∷◌, length, sym, refl, ap, subst, arith}
use Rattle.std.proofs.Math.Nat.{pow-succ', pow-zero}
use Rattle.std.proofs.lemmas.List.{nil_from_length}
use Rattle.algebra.specs.Field.{Field}
use Rattle.algebra.specs.Polynomial.{Apart, curve, Through}
use Rattle.algebra.specs.Count.{Exactly}
use Rattle.algebra.proofs.Polynomials.{length_curve, curve_through, curve_inj, curve_all}
use Rattle.algebra.proofs.Counting.{exactly_map, exactly_one, exactly_with}

-- of q things there are q^s lists of s elements
pub exactly_lists : {K : Type 0} (q : ℕ) → Exactly q (λ (k : K). Unit {0}) → (s : ℕ) → Exactly (q ^ s) (λ (f : List K). length f ≡ s)
exactly_lists {K} q x zero = subst (λ z. Exactly z (λ (f : List K). length f ≡ 0)) (sym (pow-zero q)) (exactly_one [] refl nil_from_length)
exactly_lists {K} q x (suc s) =
    subst (λ z. Exactly z (λ (f : List K). length f ≡ suc s)) (sym (pow-succ' q s))
    (exactly_with ◌∷◌ (λ a b l r e. (cc, cc)) (λ a l _ e. ap suc e) back x (exactly_lists q x s))
  where
    back : (f : List K) → length f ≡ suc s → (k : K) × (g : List K) × Unit {0} × (length g ≡ s) × (f ≡ k ∷ g)
    back [] e = absurd (omega arith)
    back (k ∷ g) e = (k, g, tt, omega arith, refl)

module _ {K : Type 0} (F : Field K) (q : ℕ) (whole : Exactly q (λ (k : K). Unit {0})) {I : Type 0} (x : I → K) where
  -- of the polynomials with s coefficients more than there are points, q^s pass through the points: one for each list of s elements
  pub exactly_curves : (is : List I) (y : I → K) (s : ℕ) → Apart x is
      → Exactly (q ^ s) (λ f. (length f ≡ s + length is) × Through F x y f is)
  exactly_curves is y s d =
      exactly_map (curve F x is y) (λ g l. (omega (arith, length_curve F x is y g), curve_through F x is y g d))
      (λ f g _ _ e. curve_inj F x is y f g e) (λ f h. let r = curve_all F x is y s f d h.0 h.1 in (r.0, r.1, r.2))
      (exactly_lists q whole s)
