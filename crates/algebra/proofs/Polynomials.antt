-- Polynomials: their values and lengths, division by X - a, and interpolation: polynomials that agree at as many points as they have
-- coefficients are equal, and through points with distinct abscissae pass the polynomials of `curve` and no other.
-- Assumes nothing.
use Rattle.std.proofs.Common.{◌≡◌, ℕ, suc, ◌+◌, ◌<◌, ◌≤◌, List, [], ◌∷◌, length, sym, refl, ap, ◌∙◌, ap₂, arith}
use Rattle.std.specs.List.{AllByRecursion}
use Rattle.algebra.specs.Field.{Field}
use Rattle.algebra.specs.Polynomial.{Apart, eval, plus, scale, times, lin, times_root, quotient, curve, interpolated, Through}
pub use Rattle.algebra.proofs.Counting.{all_with}
use Rattle.algebra.proofs.Rules.{zero_add, add_cancel, mul_zero, one_mul, zero_mul}
use Rattle.algebra.proofs.Normal.{v, :0, :1, ◌:+◌, ◌:-◌, ◌:*◌, :-◌, ring, ring_from}

module _ {K : Type 0} (F : Field K) where
  open F use {zero as 𝟘, add as ◌⊕◌, mul as ◌⊗◌, neg as ⊖◌, inv, add_assoc, add_comm, add_zero, mul_assoc, mul_comm, mul_inv}

  infixl 65 ◌⊕◌
  infixl 70 ◌⊗◌
  infix 80 ⊖◌
  pub sub_zero : (a b : K) → a ⊕ ⊖ b ≡ 𝟘 → a ≡ b
  sub_zero a b h = ring_from F (a ∷ b ∷ []) (v 0) (v 1) :1 (v 0 :- v 1) :0 h tt

  -- a factor that is not zero cancels
  pub mul_cancel : (c a b : K) → (c ≡ 𝟘 → ⊥) → c ⊗ a ≡ c ⊗ b → a ≡ b
  mul_cancel c a b n h =
      cc (mul_assoc (inv c) c a, mul_assoc (inv c) c b, mul_comm (inv c) c, mul_inv c n, one_mul F a, one_mul F b)

  -- b + d·((a - b)/d) = a
  pub fraction : (a b d : K) → (d ≡ 𝟘 → ⊥) → b ⊕ d ⊗ ((a ⊕ ⊖ b) ⊗ inv d) ≡ a
  fraction a b d n =
      ring_from F (a ∷ b ∷ d ∷ inv d ∷ []) (v 1 :+ v 2 :* ((v 0 :- v 1) :* v 3)) (v 0) (v 0 :- v 1) (v 2 :* v 3) :1 (mul_inv d n) tt

  -- a line through (a, b) and (x, y) has the slope (y - b)/(x - a)
  pub slope : (x a y b p : K) → (x ≡ a → ⊥) → y ≡ b ⊕ (x ⊕ ⊖ a) ⊗ p → p ≡ (y ⊕ ⊖ b) ⊗ inv (x ⊕ ⊖ a)
  slope x a y b p n h =
      let d = x ⊕ ⊖ a in
      let nd : d ≡ 𝟘 → ⊥ = λ z. n (sub_zero x a z) in
      mul_cancel d p ((y ⊕ ⊖ b) ⊗ inv d) nd (add_cancel F _ _ b (add_comm _ b ∙ sym h ∙ sym (fraction y b d nd) ∙ add_comm b _))

  -- the values of sums and products
  pub eval_plus : (f g : List K) (x : K) → eval F (plus F f g) x ≡ eval F f x ⊕ eval F g x
  eval_plus [] g x = sym (zero_add F (eval F g x))
  eval_plus (c ∷ f) [] x = sym (add_zero (eval F (c ∷ f) x))
  eval_plus (c ∷ f) (d ∷ g) x =
      ap (λ z. c ⊕ d ⊕ x ⊗ z) (eval_plus f g x)
      ∙ ring F (c ∷ d ∷ x ∷ eval F f x ∷ eval F g x ∷ []) (v 0 :+ v 1 :+ v 2 :* (v 3 :+ v 4))
      ((v 0 :+ v 2 :* v 3) :+ (v 1 :+ v 2 :* v 4)) tt

  pub eval_scale : (k : K) (f : List K) (x : K) → eval F (scale F k f) x ≡ k ⊗ eval F f x
  eval_scale k [] x = sym (mul_zero F k)
  eval_scale k (c ∷ f) x =
      ap (λ z. k ⊗ c ⊕ x ⊗ z) (eval_scale k f x)
      ∙ ring F (k ∷ c ∷ x ∷ eval F f x ∷ []) (v 0 :* v 1 :+ v 2 :* (v 0 :* v 3)) (v 0 :* (v 1 :+ v 2 :* v 3)) tt

  pub eval_add_multiple : (f : List K) (c : K) (g : List K) (x : K) → eval F (plus F f (scale F c g)) x ≡ eval F f x ⊕ c ⊗ eval F g x
  eval_add_multiple f c g x = eval_plus f (scale F c g) x ∙ ap (λ w. eval F f x ⊕ w) (eval_scale c g x)

  pub eval_times : (f g : List K) (x : K) → eval F (times F f g) x ≡ eval F f x ⊗ eval F g x
  eval_times [] g x = sym (zero_mul F (eval F g x))
  eval_times (c ∷ f) g x =
      eval_plus (scale F c g) (𝟘 ∷ times F f g) x ∙ ap₂ (λ y z. y ⊕ (𝟘 ⊕ x ⊗ z)) (eval_scale c g x) (eval_times f g x)
      ∙ ring F (c ∷ x ∷ eval F f x ∷ eval F g x ∷ []) (v 0 :* v 3 :+ (:0 :+ v 1 :* (v 2 :* v 3))) ((v 0 :+ v 1 :* v 2) :* v 3) tt

  pub eval_lin : (a b : K) (f : List K) (x : K) → eval F (lin F a b f) x ≡ b ⊕ (x ⊕ ⊖ a) ⊗ eval F f x
  eval_lin a b [] x = ring F (a ∷ b ∷ x ∷ []) (v 1 :+ v 2 :* :0) (v 1 :+ (v 2 :- v 0) :* :0) tt
  eval_lin a b (c ∷ f) x =
      ap (λ z. b ⊕ ⊖ (a ⊗ c) ⊕ x ⊗ z) (eval_lin a c f x)
      ∙ ring F (a ∷ b ∷ c ∷ x ∷ eval F f x ∷ []) (v 1 :- v 0 :* v 2 :+ v 3 :* (v 2 :+ (v 3 :- v 0) :* v 4))
      (v 1 :+ (v 3 :- v 0) :* (v 2 :+ v 3 :* v 4)) tt

  pub eval_times_root : (a : K) (f : List K) (x : K) → eval F (times_root F a f) x ≡ (x ⊕ ⊖ a) ⊗ eval F f x
  eval_times_root a [] x = sym (mul_zero F (x ⊕ ⊖ a))
  eval_times_root a (c ∷ f) x = eval_lin a 𝟘 (c ∷ f) x ∙ zero_add F _

  -- X·f = a·f(a) + (X - a)·(quotient a f)
  eval_quotient' : (a : K) (f : List K) (x : K) → x ⊗ eval F f x ≡ a ⊗ eval F f a ⊕ (x ⊕ ⊖ a) ⊗ eval F (quotient F a f) x
  eval_quotient' a [] x = ring F (a ∷ x ∷ []) (v 1 :* :0) (v 0 :* :0 :+ (v 1 :- v 0) :* :0) tt
  eval_quotient' a (c ∷ f) x =
      ring_from F (a ∷ c ∷ x ∷ eval F f x ∷ eval F f a ∷ eval F (quotient F a f) x ∷ []) (v 2 :* (v 1 :+ v 2 :* v 3))
      (v 0 :* (v 1 :+ v 0 :* v 4) :+ (v 2 :- v 0) :* ((v 1 :+ v 0 :* v 4) :+ v 2 :* v 5)) (v 2) (v 2 :* v 3)
      (v 0 :* v 4 :+ (v 2 :- v 0) :* v 5) (eval_quotient' a f x) tt

  -- c + X·f = (its value at a) + (X - a)·(quotient a f)
  pub eval_quotient : (a c : K) (f : List K) (x : K) → eval F (c ∷ f) x ≡ eval F (c ∷ f) a ⊕ (x ⊕ ⊖ a) ⊗ eval F (quotient F a f) x
  eval_quotient a c f x = ap (λ z. c ⊕ z) (eval_quotient' a f x) ∙ sym (add_assoc c (a ⊗ eval F f a) _)

  -- how many coefficients quotients and products have
  pub length_quotient : (a : K) (f : List K) → length (quotient F a f) ≡ length f
  length_quotient a [] = refl
  length_quotient a (c ∷ f) = ap suc (length_quotient a f)

  pub length_lin : (a b : K) (f : List K) → length (lin F a b f) ≡ suc (length f)
  length_lin a b [] = refl
  length_lin a b (c ∷ f) = ap suc (length_lin a c f)

  pub length_times_root : (a : K) (f : List K) → 0 < length f → length (times_root F a f) ≡ suc (length f)
  length_times_root a [] l = absurd (omega arith)
  length_times_root a (c ∷ f) l = length_lin a 𝟘 (c ∷ f)

  pub times_root_within : (a : K) (f : List K) (n : ℕ) → length f ≤ n → length (times_root F a f) ≤ suc n
  times_root_within a [] n l = omega arith
  times_root_within a (c ∷ f) n l = omega (arith, length_lin a 𝟘 (c ∷ f))

  -- `lin` puts together again what the division by X - a takes apart
  pub lin_quotient : (a c : K) (f : List K) → lin F a (eval F (c ∷ f) a) (quotient F a f) ≡ c ∷ f
  lin_quotient a c [] = ap (λ z. z ∷ []) (ring F (a ∷ c ∷ []) (v 1 :+ v 0 :* :0) (v 1) tt)
  lin_quotient a c (d ∷ f) =
      ap₂ ◌∷◌ (ring F (a ∷ c ∷ d ∷ eval F f a ∷ []) (v 1 :+ v 0 :* (v 2 :+ v 0 :* v 3) :- v 0 :* (v 2 :+ v 0 :* v 3)) (v 1) tt)
      (lin_quotient a d f)

  -- b + (X - a)·f determines b and f
  pub lin_inj : (a b c : K) (f g : List K) → lin F a b f ≡ lin F a c g → (b ≡ c) × (f ≡ g)
  lin_inj a b c [] [] e = (cc, refl)
  lin_inj a b c [] (d ∷ g) e = absurd (omega (arith, ap length e, length_lin a d g))
  lin_inj a b c (d ∷ f) [] e = absurd (omega (arith, ap length e, length_lin a d f))
  lin_inj a b c (d ∷ f) (h ∷ g) e =
      let r = lin_inj a d h f g (cc) in
      let k : b ⊕ ⊖ (a ⊗ d) ≡ c ⊕ ⊖ (a ⊗ d) = (cc) ∙ ap (λ w. c ⊕ ⊖ (a ⊗ w)) (sym r.0) in
      (add_cancel F b c _ k, ap₂ ◌∷◌ r.0 r.1)

  -- the quotient of X·f by X - a determines f
  quotient_inj : (a : K) (f g : List K) → quotient F a f ≡ quotient F a g → f ≡ g
  quotient_inj a [] [] e = refl
  quotient_inj a [] (d ∷ g) e = cc
  quotient_inj a (c ∷ f) [] e = cc
  quotient_inj a (c ∷ f) (d ∷ g) e =
      let t = quotient_inj a f g (cc) in
      let h : c ⊕ a ⊗ eval F f a ≡ d ⊕ a ⊗ eval F f a = (cc) ∙ ap (λ w. d ⊕ a ⊗ eval F w a) (sym t) in
      ap₂ ◌∷◌ (add_cancel F c d _ h) t

  -- f = f(a) + (X - a)·g, where g has one coefficient less
  pub divide : (a : K) (f : List K) (n : ℕ) → length f ≤ suc n
      → (g : List K) × (length g ≤ n) × ((x : K) → eval F f x ≡ eval F f a ⊕ (x ⊕ ⊖ a) ⊗ eval F g x)
  divide a [] n h = ([], omega arith, λ x. ring F (a ∷ x ∷ []) :0 (:0 :+ (v 1 :- v 0) :* :0) tt)
  divide a (c ∷ f) n h = (quotient F a f, omega (arith, length_quotient a f), eval_quotient a c f)

  -- where f and g agree at a and at x, their quotients p and q by X - a agree at x
  descend : {fa fx ga gx : K} (x a p q : K) → (x ≡ a → ⊥) → fx ≡ fa ⊕ (x ⊕ ⊖ a) ⊗ p → gx ≡ ga ⊕ (x ⊕ ⊖ a) ⊗ q
      → fa ≡ ga → fx ≡ gx → p ≡ q
  descend {fa = fa} x a p q n hf hg e h =
      mul_cancel (x ⊕ ⊖ a) p q (λ z. n (sub_zero x a z))
      (add_cancel F _ _ fa (cc (add_comm ((x ⊕ ⊖ a) ⊗ p) fa, add_comm ((x ⊕ ⊖ a) ⊗ q) fa)))

  module _ {I : Type 0} (x : I → K) where
    -- polynomials that agree at as many points as the longer one has coefficients agree everywhere
    pub agree : (is : List I) (f g : List K) → Apart x is → length f ≤ length is → length g ≤ length is
        → AllByRecursion (λ i. eval F f (x i) ≡ eval F g (x i)) is → (z : K) → eval F f z ≡ eval F g z
    agree [] [] [] d lf lg h z = refl
    agree [] (c ∷ f) g d lf lg h z = absurd (omega arith)
    agree [] [] (c ∷ g) d lf lg h z = absurd (omega arith)
    agree (i ∷ is) f g d lf lg h z =
        let p = divide (x i) f (length is) lf in
        let q = divide (x i) g (length is) lg in
        let rest : AllByRecursion (λ j. eval F p.0 (x j) ≡ eval F q.0 (x j)) is =
        all_with (λ j n e. descend (x j) (x i) (eval F p.0 (x j)) (eval F q.0 (x j)) n (p.2 (x j)) (q.2 (x j)) h.0 e)
        is d.0 h.1 in
        p.2 z ∙ ap₂ (λ s t. s ⊕ (z ⊕ ⊖ (x i)) ⊗ t) h.0 (agree is p.0 q.0 d.1 p.1 q.1 rest z) ∙ sym (q.2 z)

    -- polynomials of s coefficients that agree at s points or more are equal, coefficient by coefficient
    pub same_list : (is : List I) (f g : List K) → Apart x is → length f ≡ length g → length f ≤ length is
        → AllByRecursion (λ i. eval F f (x i) ≡ eval F g (x i)) is → f ≡ g
    same_list is [] [] d e l h = refl
    same_list is [] (b ∷ g) d e l h = absurd (omega arith)
    same_list is (c ∷ f) [] d e l h = absurd (omega arith)
    same_list [] (c ∷ f) (b ∷ g) d e l h = absurd (omega arith)
    same_list (i ∷ is) (c ∷ f) (b ∷ g) d e l h =
        let a = x i in
        let p = quotient F a f in
        let q = quotient F a g in
        let rest : AllByRecursion (λ j. eval F p (x j) ≡ eval F q (x j)) is =
        all_with (λ j n k. descend (x j) a (eval F p (x j)) (eval F q (x j)) n (eval_quotient a c f (x j)) (eval_quotient a b g (x j))
        h.0 k) is d.0 h.1 in
        let t : f ≡ g =
        quotient_inj a f g (same_list is p q d.1 (omega (arith, length_quotient a f, length_quotient a g))
        (omega (arith, length_quotient a f)) rest) in
        let k : c ⊕ a ⊗ eval F f a ≡ b ⊕ a ⊗ eval F f a = h.0 ∙ ap (λ w. b ⊕ a ⊗ eval F w a) (sym t) in
        ap₂ ◌∷◌ (add_cancel F c b _ k) t

    pub length_curve : (is : List I) (y : I → K) (g : List K) → length (curve F x is y g) ≡ length is + length g
    length_curve [] y g = omega arith
    length_curve (i ∷ is) y g = length_lin (x i) (y i) _ ∙ ap suc (length_curve is _ g) ∙ omega arith

    pub curve_through : (is : List I) (y : I → K) (g : List K) → Apart x is → Through F x y (curve F x is y g) is
    curve_through [] y g d = tt
    curve_through (i ∷ is) y g d =
        let y' : I → K = λ j. (y j ⊕ ⊖ (y i)) ⊗ inv (x j ⊕ ⊖ (x i)) in
        let f = curve F x is y' g in (
          eval_lin (x i) (y i) f (x i) ∙ ring F (x i ∷ y i ∷ eval F f (x i) ∷ []) (v 1 :+ (v 0 :- v 0) :* v 2) (v 1) tt,
          all_with (λ j n e. eval_lin (x i) (y i) f (x j) ∙ ap (λ z. y i ⊕ (x j ⊕ ⊖ (x i)) ⊗ z) e
              ∙ fraction (y j) (y i) (x j ⊕ ⊖ (x i)) (λ z. n (sub_zero (x j) (x i) z))) is d.0 (curve_through is y' g d.1),
        )

    pub length_interpolated : (is : List I) (y : I → K) → length (interpolated F x is y) ≡ length is
    length_interpolated is y = length_curve is y [] ∙ omega arith

    pub interpolated_through : (is : List I) (y : I → K) → Apart x is → Through F x y (interpolated F x is y) is
    interpolated_through is y d = curve_through is y [] d

    -- a polynomial through the points, with one coefficient for each, is the interpolation
    pub interpolation : (is : List I) (y : I → K) (f : List K) → Apart x is → length f ≡ length is → Through F x y f is
        → f ≡ interpolated F x is y
    interpolation is y f d l h =
        same_list is f (interpolated F x is y) d (omega (arith, length_interpolated is y)) (omega arith)
        (all_with (λ i p q. p ∙ sym q) is h (interpolated_through is y d))

    -- another g gives another curve
    pub curve_inj : (is : List I) (y : I → K) (f g : List K) → curve F x is y f ≡ curve F x is y g → f ≡ g
    curve_inj [] y f g e = e
    curve_inj (i ∷ is) y f g e = curve_inj is _ f g (lin_inj (x i) (y i) (y i) _ _ e).1

    -- every polynomial through the points is such a curve
    pub curve_all : (is : List I) (y : I → K) (s : ℕ) (f : List K) → Apart x is → length f ≡ s + length is → Through F x y f is
        → (g : List K) × (length g ≡ s) × (f ≡ curve F x is y g)
    curve_all [] y s f d l h = (f, omega arith, refl)
    curve_all (i ∷ is) y s [] d l h = absurd (omega arith)
    curve_all (i ∷ is) y s (c ∷ f) d l h =
        let a = x i in
        let y' : I → K = λ j. (y j ⊕ ⊖ (y i)) ⊗ inv (x j ⊕ ⊖ (x i)) in
        let rest : Through F x y' (quotient F a f) is =
        all_with (λ j n e. slope (x j) a (y j) (y i) (eval F (quotient F a f) (x j)) n
        (sym e ∙ eval_quotient a c f (x j) ∙ ap (λ z. z ⊕ (x j ⊕ ⊖ a) ⊗ eval F (quotient F a f) (x j)) h.0)) is d.0 h.1 in
        let r = curve_all is y' s (quotient F a f) d.1 (omega (arith, length_quotient a f)) rest in
        (r.0, r.1, sym (lin_quotient a c f) ∙ ap₂ (lin F a) h.0 r.2)
