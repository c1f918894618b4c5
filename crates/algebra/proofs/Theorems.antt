-- The proofs of the theorems on polynomials over every finite field.
-- Assumes nothing.
use Rattle.std.proofs.Common.{◌≡◌, ℕ, zero, suc, ◌+◌, ◌-◌, ◌^◌, ◌<◌, ◌≤◌, cond, List, [], ◌∷◌, map, length, is_some, Some, None, filter, Option, sym, refl, ap, ◌∙◌, subst, inl, inr, arith}
use mathlib.Core.HLevel.{Σ_prop_path}
use native.Mathlib.Bridge.{le_prop}
use Rattle.std.proofs.Math.Nat.{pow-zero}
use Rattle.std.proofs.lemmas.List.{length-map}
use Rattle.algebra.specs.Field.{Field}
use Rattle.algebra.specs.Doubling.{Below}
use Rattle.algebra.specs.Polynomial.{Apart, eval}
use Rattle.algebra.specs.Count.{In, Exactly, AtEach}
use Rattle.algebra.specs.Decoder.{errors}
use Rattle.algebra.specs.Theorems.{abscissa, ordinate, Passes, agreements, AgreementIsEquality, OneInterpolates, ExactlyQPass, Given, with_further, all_points, DistinctPoints, ExactlyTheseTuples, OneDecodes}
use Rattle.algebra.proofs.Counting.{all_in, all_from_in, in_map, in_map_back, apart_map, exactly_iff, exactly_each, free, free_kept, pow_one, product_free}
use Rattle.algebra.proofs.Curves.{exactly_curves}
use Rattle.algebra.proofs.Filter.{length_having}
use Rattle.algebra.proofs.Polynomials.{same_list}
use Rattle.algebra.proofs.Unique.{unique_decoding}

-- the numbers below q + 1 are 0 and the successors of the numbers below q
below_suc : (q : ℕ) → Below q → Below (suc q)
below_suc q k = (suc k.0, omega (arith, k.1))

below_zero : (q : ℕ) → Below (suc q)
below_zero q = (0, omega arith)

-- there are exactly q numbers below q
pub exactly_below : (q : ℕ) → Exactly q (λ (k : Below q). Unit {0})
unfolding below_suc below_zero
exactly_below zero = record { list = []; apart = tt; count = refl; sound = tt; complete = λ k _. omega (arith, k.1) }
exactly_below (suc q) =
    let x = exactly_below q in
    record {
      list = below_zero q ∷ map (below_suc q) x.list;
      apart = (
        all_from_in (map (below_suc q) x.list)
            (λ b k e. let r = in_map_back (below_suc q) x.list b k in omega (arith, ap (λ z. z.0) (sym r.2 ∙ e))),
        apart_map {P = λ _. Unit {0}} (below_suc q)
            (λ a b _ _ e. Σ_prop_path (λ n. le_prop) (omega (arith, ap (λ z. z.0) e))) x.list x.sound x.apart,
      );
      count = ap suc (length-map x.list (below_suc q) ∙ x.count);
      sound = (tt, all_from_in (map (below_suc q) x.list) (λ _ _. tt));
      complete = λ k _. found x.list x.complete k.0 k.1;
    }
  where
    found : (l : List (Below q)) → ((a : Below q) → Unit {0} → In a l) → (n : ℕ) (h : n < suc q)
        → In {A = Below (suc q)} (n, h) (below_zero q ∷ map (below_suc q) l)
    found l c zero h = inl (Σ_prop_path (λ n. le_prop) refl)
    found l c (suc n) h =
        let k : Below q = (n, omega arith) in
        inr (subst (λ z. In {A = Below (suc q)} z (map (below_suc q) l)) (Σ_prop_path (λ n. le_prop) refl)
        (in_map (below_suc q) l k (c k tt)))

pub agreement_is_equality_lem : AgreementIsEquality
agreement_is_equality_lem q F xs d f g lf lg h = same_list F (λ x. x) xs f g d (omega arith) (omega arith) h

module _ (q : ℕ) (F : Field (Below q)) where
  -- with as many coefficients as points there is one polynomial, with one more there are q
  one_passes : (points : List (Below q × Below q)) → Apart abscissa points → Exactly 1 (λ f. (length f ≡ length points) × Passes F points f)
  one_passes points d =
      subst (λ n. Exactly n (λ f. (length f ≡ length points) × Passes F points f)) (pow-zero q)
      (exactly_iff (λ f h. (omega (arith, h.0), h.1)) (λ f h. (omega (arith, h.0), h.1))
      (exactly_curves F q (exactly_below q) abscissa points ordinate 0 d))

  q_pass : (points : List (Below q × Below q)) → Apart abscissa points → Exactly q (λ f. (length f ≡ length points + 1) × Passes F points f)
  q_pass points d =
      subst (λ n. Exactly n (λ f. (length f ≡ length points + 1) × Passes F points f))
      (pow_one q)
      (exactly_iff (λ f h. (omega (arith, h.0), h.1)) (λ f h. (omega (arith, h.0), h.1))
      (exactly_curves F q (exactly_below q) abscissa points ordinate 1 d))

pub one_interpolates_lem : OneInterpolates
one_interpolates_lem q F points d = one_passes q F points d

pub exactly_q_pass_lem : ExactlyQPass
exactly_q_pass_lem q F points d = q_pass q F points d

-- the places without a further point are all but those with one
free_places : {K : Type 0} (places : List (Given K))
    → free (λ g. is_some g.further) places ≡ length places - length (filter (λ g. is_some g.further) places)
free_places places = omega (arith, free_kept (λ g. is_some g.further) places)

pub exactly_these_tuples_lem : ExactlyTheseTuples
exactly_these_tuples_lem q F t places ok =
    subst (λ n. Exactly n (AtEach Fits places)) (product_free q (λ g. is_some g.further) places ∙ ap (λ n. q ^ n) (free_places places))
    (exactly_each Fits (λ g. cond (is_some g.further) 1 q) places
    (λ g k. at_place g.points g.further (all_in (DistinctPoints t) places g ok k)))
  where
    Fits : Given (Below q) → List (Below q) → Type 0
    Fits g f = (length f ≡ t + 1) × Passes F (all_points g) f

    at_place : (points : List (Below q × Below q)) (further : Option (Below q × Below q))
        → (length points ≡ t) × Apart abscissa (with_further further points)
        → Exactly (cond (is_some further) 1 q) (λ f. (length f ≡ t + 1) × Passes F (with_further further points) f)
    at_place points None h =
        exactly_iff (λ f k. (omega (arith, k.0, h.0), k.1)) (λ f k. (omega (arith, k.0, h.0), k.1)) (q_pass q F points h.1)
    at_place points (Some p) h =
        exactly_iff (λ f k. (omega (arith, k.0, h.0), k.1)) (λ f k. (omega (arith, k.0, h.0), k.1))
        (one_passes q F (p ∷ points) h.1)

pub one_decodes_lem : OneDecodes
one_decodes_lem q F t points d enough f g lf lg af ag =
    unique_decoding F abscissa ordinate t t points d f g (omega arith) (omega arith) (omega arith) (few f af) (few g ag)
  where
    few : (f : List (Below q)) → length points - t ≤ agreements F points f → errors F abscissa ordinate f points ≤ t
    few f h = omega (arith, length_having (λ p. F.same (eval F f (abscissa p)) (ordinate p)) points)
