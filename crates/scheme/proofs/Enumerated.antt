-- Filters that keep one thing or none, and the list of all polynomials.
-- Assumes nothing.
use Rattle.std.proofs.Common.{◌≡◌, ℕ, zero, suc, ◌+◌, ◌<◌, ◌≤◌, Bool, true, false, cond, ◌⊎◌, List, [], ◌∷◌, ◌++◌, map, length, filter, sym, refl, ap, ◌∙◌, subst, ap₂, inl, inr, arith}
use mathlib.Core.List.{head-eq_of_cons-eq, tail-eq_of_cons-eq}
use Rattle.std.specs.List.{range_with_len, AllByRecursion}
use Rattle.std.proofs.lemmas.Bool.{cases_eq}
use Rattle.algebra.specs.Polynomial.{Distinct}
use Rattle.algebra.specs.Count.{In}
use Rattle.algebra.proofs.Counting.{all_in, all_from_in, in_left, in_right, in_map, in_map_back, apart_map, apart_append}
use Rattle.scheme.specs.Fitting.{before_each, polynomials}

module _ {A : Type 0} (test : A → Bool) where
  pub kept_none : (l : List A) → ((a : A) → In a l → test a ≡ false) → filter test l ≡ []
  kept_none [] h = refl
  kept_none (b ∷ l) h = ap (λ t. cond t (b ∷ filter test l) (filter test l)) (h b (inl refl)) ∙ kept_none l (λ a k. h a (inr k))

  -- only a passes
  pub kept_one : (l : List A) (a : A) → Distinct l → In a l → test a ≡ true → ((b : A) → In b l → test b ≡ true → b ≡ a) → filter test l ≡ a ∷ []
  kept_one [] a d k h u = absurd k
  kept_one (b ∷ l) a d (inl q) h u =
      ap (λ t. cond t (b ∷ filter test l) (filter test l)) (ap test (sym q) ∙ h) ∙ ap₂ ◌∷◌ (sym q) (kept_none l (λ c m. off c m (test c) refl))
    where
      off : (c : A) → In c l → (t : Bool) → test c ≡ t → test c ≡ false
      off c m true e = absurd (all_in _ l c d.0 m (u c (inr m) e ∙ q))
      off c m false e = e
  kept_one (b ∷ l) a d (inr k) h u = by (test b) refl (kept_one l a d.1 k h (λ c m. u c (inr m)))
    where
      by : (t : Bool) → test b ≡ t → filter test l ≡ a ∷ [] → cond t (b ∷ filter test l) (filter test l) ≡ a ∷ []
      by true e r = absurd (all_in _ l a d.0 k (sym (u b (inl refl) e)))
      by false e r = r

in_append : {A : Type 0} (l r : List A) (a : A) → In a (l ++ r) → In a l ⊎ In a r
in_append [] r a h = inr h
in_append (b ∷ l) r a (inl e) = inl (inl e)
in_append (b ∷ l) r a (inr h) = by (in_append l r a h)
  where
    by : In a l ⊎ In a r → In a (b ∷ l) ⊎ In a r
    by (inl k) = inl (inr k)
    by (inr k) = inr k

pub in_counting : (a n i : ℕ) → a ≤ i → i < a + n → In i (range_with_len a n)
in_counting a zero i h k = absurd (omega arith)
in_counting a (suc n) i h k = by (cases_eq i a) (in_counting (a + 1) n i)
  where
    by : (i ≡ a) ⊎ (i ≡ a → ⊥) → (a + 1 ≤ i → i < a + 1 + n → In i (range_with_len (a + 1) n)) → In i (a ∷ range_with_len (a + 1) n)
    by (inl e) ih = inl e
    by (inr e) ih = inr (ih (omega arith) (omega arith))

pub counting_in : (a n i : ℕ) → In i (range_with_len a n) → (a ≤ i) × (i < a + n)
counting_in a zero i k = absurd k
counting_in a (suc n) i (inl e) = (omega arith, omega arith)
counting_in a (suc n) i (inr k) = let r = counting_in (a + 1) n i k in (omega arith, omega arith)

pub distinct_counting : (a n : ℕ) → Distinct (range_with_len a n)
distinct_counting a zero = tt
distinct_counting a (suc n) =
    (all_from_in (range_with_len (a + 1) n) (λ b k e. let r = counting_in (a + 1) n b k in omega (arith, r)), distinct_counting (a + 1) n)

in_before : (codes : List ℕ) (lists : List (List ℕ)) (c : ℕ) (f : List ℕ) → In c codes → In f lists → In (c ∷ f) (before_each codes lists)
in_before [] lists c f k m = absurd k
in_before (a ∷ codes) lists c f (inl e) m =
    in_left (map (λ f. a ∷ f) lists) _ _ (subst (λ z. In (z ∷ f) (map (λ f. a ∷ f) lists)) (sym e) (in_map (λ f. a ∷ f) lists f m))
in_before (a ∷ codes) lists c f (inr k) m = in_right (map (λ f. a ∷ f) lists) _ _ (in_before codes lists c f k m)

before_in : (codes : List ℕ) (lists : List (List ℕ)) (l : List ℕ) → In l (before_each codes lists) → (c : ℕ) × (f : List ℕ) × In c codes × In f lists × (l ≡ c ∷ f)
before_in [] lists l k = absurd k
before_in (a ∷ codes) lists l k = by (in_append (map (λ f. a ∷ f) lists) (before_each codes lists) l k) (before_in codes lists l)
  where
    by : In l (map (λ f. a ∷ f) lists) ⊎ In l (before_each codes lists)
        → (In l (before_each codes lists) → (c : ℕ) × (f : List ℕ) × In c codes × In f lists × (l ≡ c ∷ f))
        → (c : ℕ) × (f : List ℕ) × In c (a ∷ codes) × In f lists × (l ≡ c ∷ f)
    by (inl m) ih = let r = in_map_back (λ f. a ∷ f) lists l m in (a, r.0, inl refl, r.1, r.2)
    by (inr m) ih = let r = ih m in (r.0, r.1, inr r.2, r.3, r.4)

before_apart : (codes : List ℕ) (lists : List (List ℕ)) → Distinct codes → Distinct lists → Distinct (before_each codes lists)
before_apart [] lists d e = tt
before_apart (a ∷ codes) lists d e =
    apart_append (map (λ f. a ∷ f) lists) (before_each codes lists)
    (apart_map {P = λ _. Unit {0}} (λ f. a ∷ f) (λ f g _ _ q. tail-eq_of_cons-eq q) lists (all_from_in lists (λ _ _. tt)) e)
    (before_apart codes lists d.1 e)
    (λ l k m.
    let r = in_map_back (λ f. a ∷ f) lists l k in
    let s = before_in codes lists l m in
    all_in _ codes s.0 d.0 s.2 (head-eq_of_cons-eq (sym s.4 ∙ r.2)))

-- a list of s codes below q
abbrev pub CodesOf : ℕ → ℕ → List ℕ → Type 0
CodesOf q s f = (length f ≡ s) × AllByRecursion (λ a. a < q) f

pub polynomials_in : (q s : ℕ) (f : List ℕ) → CodesOf q s f → In f (polynomials q s)
polynomials_in q zero [] h = inl refl
polynomials_in q zero (c ∷ f) h = absurd (omega (arith, h.0))
polynomials_in q (suc s) [] h = absurd (omega (arith, h.0))
polynomials_in q (suc s) (c ∷ f) h =
    in_before (range_with_len 0 q) (polynomials q s) c f (in_counting 0 q c (omega arith) (omega (arith, h.1.0))) (polynomials_in q s f (omega (arith, h.0), h.1.1))

pub polynomials_are : (q s : ℕ) (f : List ℕ) → In f (polynomials q s) → CodesOf q s f
polynomials_are q zero f (inl e) = subst (CodesOf q 0) (sym e) (refl, tt)
polynomials_are q zero f (inr k) = absurd k
polynomials_are q (suc s) f k =
    let r = before_in (range_with_len 0 q) (polynomials q s) f k in
    let h = polynomials_are q s r.1 r.3 in
    let c = counting_in 0 q r.0 r.2 in
    subst (CodesOf q (suc s)) (sym r.4) (ap suc h.0, (omega (arith, c), h.1))

pub polynomials_apart : (q s : ℕ) → Distinct (polynomials q s)
polynomials_apart q zero = (tt, tt)
polynomials_apart q (suc s) = before_apart (range_with_len 0 q) (polynomials q s) (distinct_counting 0 q) (polynomials_apart q s)
