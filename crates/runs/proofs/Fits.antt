-- Which polynomials pass through points, or through all but a few of them: there is only one.
-- Assumes nothing.
use Rattle.std.proofs.Common.{◌≡◌, ℕ, suc, ◌+◌, ◌*◌, ◌<◌, ◌≤◌, Bool, true, List, [], ◌∷◌, map, length, filter, sym, ◌∙◌, arith}
use Rattle.std.specs.List.{AllByRecursion, list_all}
use Rattle.std.proofs.ByRecursion.{all_kept_by, All-map}
use Rattle.std.proofs.lemmas.List.{length-map}
use Rattle.std.proofs.lemmas.Bool.{leb-true, le-leb, eqb-true}
use Rattle.algebra.specs.Polynomial.{Apart}
use Rattle.algebra.specs.Count.{In}
use Rattle.algebra.proofs.Counting.{all_from_in}
use Rattle.fields.specs.Laws.{Codes, Laws}
use Rattle.scheme.specs.Polynomial.{polynomial_value}
use Rattle.scheme.specs.Fitting.{polynomials, passes, agreements, fits, fitting}
use Rattle.scheme.proofs.Enumerated.{kept_one, CodesOf, polynomials_in, polynomials_are, polynomials_apart}
use Rattle.runs.proofs.Bridge.{same_polynomial}
use Rattle.runs.proofs.Lists.{every_in, kept_in, apart_kept, kept_overlap, kept_few, distinct_images}

-- points of the plane over the field, with distinct abscissae
pub record Plane (C : Codes) (points : List (ℕ × ℕ)) : Type 0 where
  pub apart : Apart (λ (p : ℕ × ℕ). p.0) points
  pub below : AllByRecursion (λ (p : ℕ × ℕ). p.0 < C.size) points

pub plane_kept : {C : Codes} {points : List (ℕ × ℕ)} (test : ℕ × ℕ → Bool) → Plane C points → Plane C (filter test points)
plane_kept {points = points} test h =
    record { apart = apart_kept test (λ p. p.0) points h.apart; below = all_kept_by test _ points h.below }

module _ {C : Codes} (L : Laws C) where
  -- polynomials of s coefficients that agree at s points, or more, are equal
  pub same_on : (points : List (ℕ × ℕ)) → Plane C points → (s : ℕ) (f g : List ℕ) → CodesOf C.size s f → CodesOf C.size s g
      → s ≤ length points → ((p : ℕ × ℕ) → In p points → polynomial_value C f p.0 ≡ polynomial_value C g p.0) → f ≡ g
  same_on points h s f g hf hg many same =
      same_polynomial L s f g (map (λ p. p.0) points) hf hg
      (distinct_images (λ p. p.0) points h.apart)
      (All-map _ (λ p. p.0) points h.below) (omega (arith, length-map points (λ p. p.0)))
      (All-map _ (λ p. p.0) points (all_from_in points same))

  module _ (points : List (ℕ × ℕ)) (h : Plane C points) where
    -- of 3·t + 1 points, or more, two polynomials that fit share t + 1 at least
    fits_one : (t : ℕ) → 3 * t + 1 ≤ length points → (f g : List ℕ) → CodesOf C.size (suc t) f → CodesOf C.size (suc t) g
        → fits C points t f ≡ true → fits C points t g ≡ true → f ≡ g
    fits_one t many f g hf hg ff fg =
        same_on (filter (passes C g) (filter (passes C f) points)) (plane_kept (passes C g) (plane_kept (passes C f) h)) (suc t) f g hf hg
        (omega (arith, kept_overlap (passes C f) (passes C g) points, leb-true _ _ ff, leb-true _ _ fg))
        (λ p k.
        let r = kept_in (passes C g) (filter (passes C f) points) p k in
        let s = kept_in (passes C f) points p r.0 in
        eqb-true _ _ s.1 ∙ sym (eqb-true _ _ r.1))

    -- at most one fits
    pub fitting_few : (t : ℕ) → 3 * t + 1 ≤ length points → length (fitting C points t) ≤ 1
    fitting_few t many =
        kept_few (fits C points t) (polynomials C.size (suc t)) (polynomials_apart C.size (suc t))
        (λ f g k m ef eg. fits_one t many f g (polynomials_are _ _ f k) (polynomials_are _ _ g m) ef eg)

    -- one that misses at most t of the points is the one
    pub fitting_is : (t : ℕ) → 3 * t + 1 ≤ length points → (g : List ℕ) → CodesOf C.size (suc t) g
        → length points ≤ agreements C points g + t → fitting C points t ≡ g ∷ []
    fitting_is t many g hg most =
        let fit : fits C points t g ≡ true = le-leb _ _ (omega arith) in
        kept_one (fits C points t) (polynomials C.size (suc t)) g (polynomials_apart C.size (suc t)) (polynomials_in _ _ g hg) fit
        (λ f k e. fits_one t many f g (polynomials_are _ _ f k) hg e fit)

    -- a polynomial of k coefficients through k points, or more, is the only one through all of them
    pub through_is : (k : ℕ) → k ≤ length points → (g : List ℕ) → CodesOf C.size k g → list_all (passes C g) points ≡ true
        → filter (λ f. list_all (passes C f) points) (polynomials C.size k) ≡ g ∷ []
    through_is k many g hg on =
        kept_one (λ f. list_all (passes C f) points) (polynomials C.size k) g (polynomials_apart C.size k) (polynomials_in _ _ g hg) on
        (λ f m e. same_on points h k f g (polynomials_are _ _ f m) hg many
        (λ p i. eqb-true _ _ (every_in (passes C f) points p e i) ∙ sym (eqb-true _ _ (every_in (passes C g) points p on i))))
