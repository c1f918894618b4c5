-- A decoder: it finds the polynomial of t + 1 coefficients that misses at most t of 3·t + 1 points, if there is one.
--
-- It keeps two ratios top/bottom of polynomials, at first 1/0 and 0/1. The discrepancy of a ratio at a point (x, y) is
-- top(x) - y·bottom(x); it is zero where the ratio has the value y at x, or is 0/0 there. The points are taken one by one, and a step
-- makes both discrepancies zero at the new point: it multiplies one ratio by X - x, top and bottom, and where the discrepancy of the
-- other is not zero it subtracts from it a multiple of the one, as it was before. The discrepancies at the earlier points stay zero.
--
-- After 3·t + 1 points one of the ratios has a top of at most 2·t + 1 and a bottom of at most t + 1 coefficients, not both zero,
-- and a polynomial that misses at most t of the points is top/bottom. So it passes through each point at which bottom is not zero.
-- At most t of the points are at a root of bottom, and the candidate is the interpolation through the first t + 1 that are not.
-- Where every polynomial misses more than t points, the candidate means nothing.
--
-- Assumes nothing.
use Rattle.std.specs.Prelude.{◌≡◌, ℕ, zero, suc, ◌+◌, ◌*◌, ◌≤◌, Bool, cond, List, [], ◌∷◌, length, nat_le, nat_lt, slice_index_or}
use Rattle.std.specs.List.{AllByRecursion}
use Rattle.algebra.specs.Field.{Field}
use Rattle.algebra.specs.Polynomial.{eval, plus, scale, times_root}

-- a in front of the list, if a has the property
abbrev pub keep : {A : Type 0} {P : Type 0} → Dec P → A → List A → List A
keep (yes p) a l = a ∷ l
keep (no p) a l = l

-- the points that have a property, in their order
abbrev pub having : {I : Type 0} {P : I → Type 0} → ((i : I) → Dec (P i)) → List I → List I
having dec [] = []
having dec (i ∷ is) = keep (dec i) i (having dec is)

-- 1 where the property fails
abbrev pub miss : {P : Type 0} → Dec P → ℕ
miss (yes p) = 0
miss (no p) = 1

-- how many of the points lack a property
abbrev pub missing : {I : Type 0} {P : I → Type 0} → ((i : I) → Dec (P i)) → List I → ℕ
missing dec [] = 0
missing dec (i ∷ is) = miss (dec i) + missing dec is

module _ {K : Type 0} (F : Field K) where
  open F use {zero as 𝟘, one as 𝟙, add as ◌⊕◌, mul as ◌⊗◌, neg as ⊖◌, inv, same}

  infixl 65 ◌⊕◌
  infixl 70 ◌⊗◌
  infix 80 ⊖◌
  -- each coefficient is zero
  abbrev pub Zero : List K → Type 0
  Zero f = AllByRecursion (λ c. c ≡ 𝟘) f

  -- there is a last coefficient, and it is not zero: the degree is one less than the number of coefficients
  abbrev pub Lead : List K → Type 0
  Lead [] = ⊥
  Lead (c ∷ []) = c ≡ 𝟘 → ⊥
  Lead (c ∷ (d ∷ f)) = Lead (d ∷ f)

  -- a ratio top/bottom of polynomials
  pub record Ratio : Type 0 where
    pub top : List K
    pub bottom : List K

  -- the two ratios that the decoder keeps
  pub record State : Type 0 where
    pub first : Ratio
    pub second : Ratio

  -- 1/0 and 0/1
  abbrev pub start : State
  start = record { first = record { top = 𝟙 ∷ []; bottom = [] }; second = record { top = []; bottom = 𝟙 ∷ [] } }

  -- top and bottom times X - z: the discrepancy at a point with the abscissa z becomes zero
  abbrev pub raise : K → Ratio → Ratio
  raise z p = record { top = times_root F z p.top; bottom = times_root F z p.bottom }

  -- p + c·r, top and bottom each
  abbrev pub plus_multiple : Ratio → K → Ratio → Ratio
  plus_multiple p c r = record {
    top = plus F p.top (scale F c r.top);
    bottom = plus F p.bottom (scale F c r.bottom);
  }

  -- A step at a point with the abscissa z, where da and db are the discrepancies of the first and of the second ratio. A ratio with
  -- the discrepancy zero stays and the other is raised. Where neither is zero, one is raised, and a multiple of what it was is
  -- subtracted from the other; the test says whether it is the first that is raised.
  abbrev pub move : State → (z da db : K) → Dec (da ≡ 𝟘) → Dec (db ≡ 𝟘) → Bool → State
  move s z da db (yes _) e b = record { first = s.first; second = raise z s.second }
  move s z da db (no _) (yes _) b = record { first = raise z s.first; second = s.second }
  move s z da db (no _) (no _) b =
      cond b
      (record { first = raise z s.first; second = plus_multiple s.second (⊖ (db ⊗ inv da)) s.first })
      (record { first = plus_multiple s.first (⊖ (da ⊗ inv db)) s.second; second = raise z s.second })

  module _ {I : Type 0} (x y : I → K) where
    -- top - y·bottom at the point i
    abbrev pub discrepancy : Ratio → I → K
    discrepancy p i = eval F p.top (x i) ⊕ ⊖ (y i ⊗ eval F p.bottom (x i))

    -- how many of the points f misses
    abbrev pub errors : List K → List I → ℕ
    errors f is = missing (λ i. same (eval F f (x i)) (y i)) is

  -- the decoder for polynomials of t + 1 coefficients
  module _ {I : Type 0} (x y : I → K) (t : ℕ) where
    -- the step at the point i; where neither discrepancy is zero, the first ratio is raised if the length of its top is less than
    -- the length of the second's bottom plus t
    abbrev pub step : State → I → State
    step s i =
        let da = discrepancy x y s.first i in
        let db = discrepancy x y s.second i in
        move s (x i) da db (same da 𝟘) (same db 𝟘) (nat_lt (length s.first.top) (length s.second.bottom + t))

    -- a step at each of the points, the last point of the list first
    abbrev pub run : List I → State
    run [] = start
    run (i ∷ is) = step (run is) i

    -- the ratio to use where at most m points are missed: the first, if its top has at most m + t + 1 coefficients, or the second
    abbrev pub chosen : ℕ → State → Ratio
    chosen m s = cond (nat_le (length s.first.top) (m + t + 1)) s.first s.second

-- The interpolation, one point at a time. Here a ratio holds two polynomials that belong to the points taken so far: top passes
-- through them, and bottom is the product of X - x over their abscissae x.
module _ {K : Type 0} (X : Field K) where
  open X use {zero as 𝟘, one as 𝟙, add as ◌⊕◌, mul as ◌⊗◌, neg as ⊖◌, inv, same}

  infixl 65 ◌⊕◌
  infixl 70 ◌⊗◌
  infix 80 ⊖◌
  -- the point (x, y) is taken: top changes by the multiple of bottom that takes it through the point
  abbrev pub extended : Ratio X → K → K → Ratio X
  extended p x y = record {
    top = plus X p.top (scale X ((y ⊕ ⊖ (eval X p.top x)) ⊗ inv (eval X p.bottom x)) p.bottom);
    bottom = times_root X x p.bottom;
  }

  -- no point is taken
  abbrev pub empty : Ratio X
  empty = record { top = []; bottom = 𝟙 ∷ [] }

  -- p where the property holds, and else r
  abbrev pub unless : {P : Type 0} → Dec P → Ratio X → Ratio X → Ratio X
  unless (yes h) p r = p
  unless (no h) p r = r

  -- the point (x, y) is offered: it is taken if at most t are taken so far and x is not a root of f
  abbrev pub offered : List K → ℕ → Ratio X → K → K → Ratio X
  offered f t p x y = cond (nat_le (length p.top) t) (unless (same (eval X f x) 𝟘) p (extended p x y)) p

  -- each of the points is offered, the last point of the list first
  abbrev pub collected : {I : Type 0} (x y : I → K) → List K → ℕ → List I → Ratio X
  collected x y f t [] = empty
  collected x y f t (i ∷ is) = offered f t (collected x y f t is) (x i) (y i)

-- the abscissa or the ordinate of the point i, where the points have the numbers 0, 1, 2, ...
abbrev pub place : {K : Type 0} → Field K → List K → ℕ → K
place X xs i = slice_index_or xs i X.zero

-- the numbers below n, the greatest first: as `run` and `collected` take the last of a list first, they take the point 0 first
abbrev pub down : ℕ → List ℕ
down zero = []
down (suc n) = n ∷ down n

-- the points (x, y) with their abscissae in one list and their ordinates in another
module _ {K : Type 0} (X : Field K) (xs ys : List K) (t : ℕ) where
  -- the candidate that the decoder finds from the first 3·t + 1 points
  abbrev pub answer : List K
  answer =
      let is = down (3 * t + 1) in
      let ratio = chosen X {I = ℕ} (place X xs) (place X ys) t t (run X (place X xs) (place X ys) t is) in
      (collected X (place X xs) (place X ys) ratio.bottom t is).top

  -- f has t + 1 coefficients and misses at most t of the first n points
  abbrev pub Fit : ℕ → List K → Type 0
  Fit n f = (length f ≡ t + 1) × (errors X (place X xs) (place X ys) f (down n) ≤ t)
