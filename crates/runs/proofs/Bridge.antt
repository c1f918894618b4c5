-- Polynomials on codes by the field of the codes: what the algebra says of polynomials over a field, said of lists of codes.
-- Assumes nothing.
use Rattle.std.proofs.Common.{◌≡◌, ℕ, suc, ◌+◌, ◌^◌, ◌<◌, ◌≤◌, List, [], ◌∷◌, map, length, sym, refl, ap, ◌∙◌, ap₂, arith}
use Rattle.std.specs.List.{AllByRecursion}
use Rattle.std.proofs.lemmas.List.{length-map}
use Rattle.algebra.specs.Doubling.{Below}
use Rattle.algebra.specs.Field.{Field}
use Rattle.algebra.specs.Polynomial.{Apart, Distinct, eval, Through}
use Rattle.algebra.specs.Count.{Exactly}
use Rattle.algebra.proofs.Rules.{zero_mul}
use Rattle.algebra.proofs.Counting.{exactly_map}
use Rattle.algebra.proofs.Curves.{exactly_curves}
use Rattle.algebra.proofs.Polynomials.{same_list}
use Rattle.algebra.proofs.Theorems.{exactly_below}
use Rattle.fields.specs.Laws.{Codes, Laws}
use Rattle.fields.specs.Elements.{elements, zero_below}
use Rattle.fields.specs.ElementsLemmas.{numbers, zero_code, mul_code}
use Rattle.scheme.specs.Polynomial.{polynomial_value}
use Rattle.scheme.proofs.Enumerated.{CodesOf}
use Rattle.scheme.proofs.Fitted.{value_code}

module _ {C : Codes} (L : Laws C) where
  -- the elements are the numbers below the size
  abbrev Code : Type 0
  Code = Below C.size

  abbrev K : Field Code
  K = elements (numbers L)

  same_code : (a b : Code) → a.0 ≡ b.0 → a ≡ b
  same_code a b e = (numbers L).code_injective a b e

  -- ---- lists of elements and lists of codes

  abbrev low : List Code → List ℕ
  low g = map (λ (a : Code). a.0) g

  abbrev lift : (g : List ℕ) → AllByRecursion (λ a. a < C.size) g → List Code
  lift [] h = []
  lift (a ∷ g) h = (a, h.0) ∷ lift g h.1

  low_lift : (g : List ℕ) (h : AllByRecursion (λ a. a < C.size) g) → low (lift g h) ≡ g
  low_lift [] h = refl
  low_lift (a ∷ g) h = ap (λ l. a ∷ l) (low_lift g h.1)

  length_lift : (g : List ℕ) (h : AllByRecursion (λ a. a < C.size) g) → length (lift g h) ≡ length g
  length_lift [] h = refl
  length_lift (a ∷ g) h = ap suc (length_lift g h.1)

  low_below : (g : List Code) → AllByRecursion (λ a. a < C.size) (low g)
  low_below [] = tt
  low_below (a ∷ g) = (a.1, low_below g)

  low_injective : (f g : List Code) → low f ≡ low g → f ≡ g
  low_injective [] [] e = refl
  low_injective [] (b ∷ g) e = absurd (omega (arith, ap length e))
  low_injective (a ∷ f) [] e = absurd (omega (arith, ap length e))
  low_injective (a ∷ f) (b ∷ g) e =
      let h : a.0 ≡ b.0 = cc in let t : low f ≡ low g = cc in ap₂ ◌∷◌ (same_code a b h) (low_injective f g t)

  eval_lift : (g : List ℕ) (h : AllByRecursion (λ a. a < C.size) g) (x : Code) → (eval K (lift g h) x).0 ≡ polynomial_value C g x.0
  eval_lift g h x = sym (value_code (numbers L) (lift g h) x) ∙ ap (λ l. polynomial_value C l x.0) (low_lift g h)

  -- ---- values

  pub value_below : (g : List ℕ) (x : ℕ) → AllByRecursion (λ a. a < C.size) g → x < C.size → polynomial_value C g x < C.size
  value_below [] x h k = zero_below L
  value_below (c ∷ g) x h k = L.sum_below _ _ h.0 (L.product_below _ _ k (value_below g x h.1 k))

  -- the value at zero is the lowest coefficient
  pub value_at_zero : (a : ℕ) (g : List ℕ) → a < C.size → AllByRecursion (λ c. c < C.size) g → polynomial_value C (a ∷ g) 0 ≡ a
  value_at_zero a g h k = ap (C.sum a) zero_times ∙ L.sum_zero a h
    where
      y : Code
      y = (polynomial_value C g 0, value_below g 0 k (zero_below L))

      zero_times : C.product 0 (polynomial_value C g 0) ≡ 0
      zero_times =
          ap (λ z. C.product z y.0) (sym (zero_code (numbers L))) ∙ sym (mul_code (numbers L) K.zero y)
          ∙ ap (λ (z : Code). z.0) (zero_mul K y) ∙ zero_code (numbers L)

  -- ---- polynomials of s coefficients with the same values at s points are equal

  apart_from : (x : ℕ) (k : x < C.size) (ys : List ℕ) (b : AllByRecursion (λ y. y < C.size) ys) → AllByRecursion (λ y. y ≡ x → ⊥) ys
      → AllByRecursion (λ (y : Code). y ≡ (x, k) → ⊥) (lift ys b)
  apart_from x k [] b d = tt
  apart_from x k (y ∷ ys) b d = (λ e. d.0 (ap (λ (z : Code). z.0) e), apart_from x k ys b.1 d.1)

  apart_lift : (ys : List ℕ) (b : AllByRecursion (λ y. y < C.size) ys) → Distinct ys → Distinct (lift ys b)
  apart_lift [] b d = tt
  apart_lift (y ∷ ys) b d = (apart_from y b.0 ys b.1 d.0, apart_lift ys b.1 d.1)

  pub same_polynomial : (s : ℕ) (f g xs : List ℕ) → CodesOf C.size s f → CodesOf C.size s g → Distinct xs
      → AllByRecursion (λ x. x < C.size) xs → s ≤ length xs → AllByRecursion (λ x. polynomial_value C f x ≡ polynomial_value C g x) xs → f ≡ g
  same_polynomial s f g xs hf hg d b n h =
      sym (low_lift f hf.1) ∙ ap low (same_list K (λ a. a) (lift xs b) (lift f hf.1) (lift g hg.1) (apart_lift xs b d)
      (length_lift f hf.1 ∙ hf.0 ∙ sym hg.0 ∙ sym (length_lift g hg.1))
      (omega (arith, length_lift f hf.1, length_lift xs b, hf.0)) (agree xs b h)) ∙ low_lift g hg.1
    where
      agree : (ys : List ℕ) (b : AllByRecursion (λ y. y < C.size) ys) → AllByRecursion (λ y. polynomial_value C f y ≡ polynomial_value C g y) ys
          → AllByRecursion (λ (y : Code). eval K (lift f hf.1) y ≡ eval K (lift g hg.1) y) (lift ys b)
      agree [] b h = tt
      agree (y ∷ ys) b h =
          (same_code _ _ (eval_lift f hf.1 (y, b.0) ∙ h.0 ∙ sym (eval_lift g hg.1 (y, b.0))), agree ys b.1 h.1)

  -- ---- how many polynomials pass through given points

  abbrev pub InField : List (ℕ × ℕ) → Type 0
  InField points = AllByRecursion (λ (p : ℕ × ℕ). (p.0 < C.size) × (p.1 < C.size)) points

  abbrev pub Passing : List (ℕ × ℕ) → List ℕ → Type 0
  Passing points g = AllByRecursion (λ (p : ℕ × ℕ). polynomial_value C g p.0 ≡ p.1) points

  abbrev lift_points : (points : List (ℕ × ℕ)) → InField points → List (Code × Code)
  lift_points [] h = []
  lift_points (p ∷ points) h = ((p.0, h.0.0), (p.1, h.0.1)) ∷ lift_points points h.1

  length_points : (points : List (ℕ × ℕ)) (h : InField points) → length (lift_points points h) ≡ length points
  length_points [] h = refl
  length_points (p ∷ points) h = ap suc (length_points points h.1)

  apart_point : (x : ℕ) (k : x < C.size) (points : List (ℕ × ℕ)) (h : InField points) → AllByRecursion (λ (p : ℕ × ℕ). p.0 ≡ x → ⊥) points
      → AllByRecursion (λ (p : Code × Code). p.0 ≡ (x, k) → ⊥) (lift_points points h)
  apart_point x k [] h d = tt
  apart_point x k (p ∷ points) h d = (λ e. d.0 (ap (λ (z : Code). z.0) e), apart_point x k points h.1 d.1)

  apart_points : (points : List (ℕ × ℕ)) (h : InField points) → Apart (λ (p : ℕ × ℕ). p.0) points
      → Apart (λ (p : Code × Code). p.0) (lift_points points h)
  apart_points [] h d = tt
  apart_points (p ∷ points) h d = (apart_point p.0 h.0.0 points h.1 d.0, apart_points points h.1 d.1)

  through_passing : (points : List (ℕ × ℕ)) (h : InField points) (g : List Code)
      → Through K (λ p. p.0) (λ p. p.1) g (lift_points points h) → Passing points (low g)
  through_passing [] h g o = tt
  through_passing (p ∷ points) h g o =
      (value_code (numbers L) g (p.0, h.0.0) ∙ ap (λ (z : Code). z.0) o.0, through_passing points h.1 g o.1)

  passing_through : (points : List (ℕ × ℕ)) (h : InField points) (g : List ℕ) (b : AllByRecursion (λ a. a < C.size) g) → Passing points g
      → Through K (λ p. p.0) (λ p. p.1) (lift g b) (lift_points points h)
  passing_through [] h g b m = tt
  passing_through (p ∷ points) h g b m =
      (same_code _ _ (eval_lift g b (p.0, h.0.0) ∙ m.0), passing_through points h.1 g b m.1)

  -- of the polynomials with s coefficients more than there are points, as many as there are lists of s codes
  pub exactly_passing : (s : ℕ) (points : List (ℕ × ℕ)) → InField points → Apart (λ (p : ℕ × ℕ). p.0) points
      → Exactly (C.size ^ s) (λ g. CodesOf C.size (s + length points) g × Passing points g)
  exactly_passing s points h d =
      exactly_map low
      (λ g k. (
        (length-map g (λ (a : Code). a.0) ∙ k.0 ∙ ap (λ z. s + z) (length_points points h), low_below g),
        through_passing points h g k.1,
      ))
      (λ f g _ _ e. low_injective f g e)
      (λ g k. (
        lift g k.0.1,
        (length_lift g k.0.1 ∙ k.0.0 ∙ ap (λ z. s + z) (sym (length_points points h)), passing_through points h g k.0.1 k.1),
        sym (low_lift g k.0.1),
      ))
      (exactly_curves K C.size (exactly_below C.size) (λ (p : Code × Code). p.0) (lift_points points h) (λ p. p.1) s
      (apart_points points h d))
