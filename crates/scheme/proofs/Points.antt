-- Points in a slice, by their numbers; what is computed from the first of them; ratios by their parts.
-- Assumes nothing.
use Rattle.std.proofs.Common.{◌≡◌, ℕ, zero, suc, ◌<◌, ◌≤◌, List, length, get_or, take, sym, refl, ap, ◌∙◌, ap₂, arith, get_or-take}
use Rattle.std.proofs.lemmas.List.{get_or-map, take-map}
use Rattle.algebra.specs.Field.{Field}
use Rattle.algebra.specs.Decoder.{Ratio, collected, down, offered, place, run, step}
use Rattle.scheme.specs.Held.{abscissae, ordinates}
use Rattle.scheme.specs.declared.types.Point.{Point}

-- the ratio of two lists of coefficients
abbrev pub over : {E : Type 0} (X : Field E) → List E → List E → Ratio X
over X top bottom = record { top = top; bottom = bottom }

-- p is read at i
module _ {E : Type 0} (X : Field E) (points : List (Point E)) (i : ℕ) (p : Point E) (is : p ≡ get_or points i p) (h : i < length points) where
  pub at_x : p.x ≡ place X (abscissae points) i
  at_x = ap (λ (a : Point E). a.x) is ∙ sym (get_or-map (λ a. a.x) points i p X.zero h)

  pub at_y : p.y ≡ place X (ordinates points) i
  at_y = ap (λ (a : Point E). a.y) is ∙ sym (get_or-map (λ a. a.y) points i p X.zero h)

-- what is computed from the first n points
module _ {E : Type 0} (X : Field E) (points : List (Point E)) (n t : ℕ) where
  abbrev x : List (Point E) → ℕ → E
  x points = place X (abscissae points)

  abbrev y : List (Point E) → ℕ → E
  y points = place X (ordinates points)

  front_x : (k : ℕ) → k < n → x (take n points) k ≡ x points k
  front_x k l = ap (λ xs. get_or xs k X.zero) (sym (take-map (λ p. p.x) n points)) ∙ get_or-take n (abscissae points) k X.zero l

  front_y : (k : ℕ) → k < n → y (take n points) k ≡ y points k
  front_y k l = ap (λ ys. get_or ys k X.zero) (sym (take-map (λ p. p.y) n points)) ∙ get_or-take n (ordinates points) k X.zero l

  pub run_front : (k : ℕ) → k ≤ n → run X (x (take n points)) (y (take n points)) t (down k) ≡ run X (x points) (y points) t (down k)
  run_front zero h = refl
  run_front (suc k) h =
      ap₂ (λ a b. step X {I = Unit {0}} (λ _. a) (λ _. b) t (run X (x (take n points)) (y (take n points)) t (down k)) tt) (front_x k (omega arith)) (front_y k (omega arith))
      ∙ ap (λ s. step X (x points) (y points) t s k) (run_front k (omega arith))

  pub collected_front : (f : List E) (k : ℕ) → k ≤ n → collected X (x (take n points)) (y (take n points)) f t (down k) ≡ collected X (x points) (y points) f t (down k)
  collected_front f zero h = refl
  collected_front f (suc k) h =
      ap₂ (offered X f t (collected X (x (take n points)) (y (take n points)) f t (down k))) (front_x k (omega arith)) (front_y k (omega arith))
      ∙ ap (λ r. offered X f t r (x points k) (y points k)) (collected_front f k (omega arith))
