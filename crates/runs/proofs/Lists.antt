-- Tests over lists, questions, filters and the numbers of a range.
-- Assumes nothing.
use Rattle.std.proofs.Common.{◌≡◌, ℕ, ◌+◌, ◌<◌, ◌≤◌, Bool, true, false, cond, ◌&&◌, ◌||◌, List, [], ◌∷◌, map, length, filter, sym, refl, ap, ◌∙◌, subst, ap₂, inl, inr, true≢false, arith}
use Rattle.std.specs.List.{range_with_len, list_all, list_any}
use Rattle.std.proofs.ByRecursion.{all_kept_by, All-map}
use Rattle.std.proofs.lemmas.Bool.{or_left, or_right, false_from_ne_true}
use Rattle.algebra.specs.Polynomial.{Apart, Distinct}
use Rattle.algebra.specs.Count.{In}
use Rattle.algebra.proofs.Counting.{all_in}
use Rattle.scheme.proofs.Asking.{all_from_every}
use Rattle.scheme.proofs.Enumerated.{in_counting, counting_in}

-- ---- tests that all pass, or some, or none

module _ {A : Type 0} (test : A → Bool) where
  pub every_in : (l : List A) (a : A) → list_all test l ≡ true → In a l → test a ≡ true
  every_in l a e k = all_in _ l a (all_from_every test (λ a. test a ≡ true) (λ a t. t) l e) k

  pub every_from : (l : List A) → ((a : A) → In a l → test a ≡ true) → list_all test l ≡ true
  every_from [] h = refl
  every_from (b ∷ l) h = ap₂ ◌&&◌ (h b (inl refl)) (every_from l (λ a k. h a (inr k)))

  pub not_every : (l : List A) (a : A) → In a l → test a ≡ false → list_all test l ≡ false
  not_every l a k h = false_from_ne_true _ (λ e. true≢false (sym (every_in l a e k) ∙ h))

  pub not_every_in : (l : List A) → list_all test l ≡ false → (a : A) × In a l × (test a ≡ false)
  not_every_in [] e = absurd (true≢false e)
  not_every_in (b ∷ l) e = grind (arith, not_every_in l)

  pub some_from : (l : List A) (a : A) → In a l → test a ≡ true → list_any test l ≡ true
  some_from [] a k h = absurd k
  some_from (b ∷ l) a (inl q) h = or_left _ _ (ap test (sym q) ∙ h)
  some_from (b ∷ l) a (inr k) h = or_right (test b) _ (some_from l a k h)

  pub some_in : (l : List A) → list_any test l ≡ true → (a : A) × In a l × (test a ≡ true)
  some_in [] e = cc
  some_in (b ∷ l) e = grind (arith, some_in l)

  pub none_from : (l : List A) → ((a : A) → In a l → test a ≡ false) → list_any test l ≡ false
  none_from [] h = refl
  none_from (b ∷ l) h = ap₂ ◌||◌ (h b (inl refl)) (none_from l (λ a k. h a (inr k)))

  pub none_in : (l : List A) (a : A) → list_any test l ≡ false → In a l → test a ≡ false
  none_in l a e k = false_from_ne_true _ (λ h. true≢false (sym (some_from l a k h) ∙ e))

  -- ---- filters

  pub in_kept : (l : List A) (a : A) → In a l → test a ≡ true → In a (filter test l)
  in_kept [] a k h = k
  in_kept (b ∷ l) a (inl q) h = grind arith
  in_kept (b ∷ l) a (inr k) h = grind (arith, in_kept l a k h)

  pub kept_in : (l : List A) (a : A) → In a (filter test l) → In a l × (test a ≡ true)
  kept_in [] a k = absurd k
  kept_in (b ∷ l) a k = grind (arith, kept_in l a)

  pub apart_kept : {K : Type 0} (x : A → K) (l : List A) → Apart x l → Apart x (filter test l)
  apart_kept x [] d = tt
  apart_kept x (b ∷ l) d = grind (arith, apart_kept x l d.1, all_kept_by test (λ j. x j ≡ x b → ⊥) l d.0)

  pub kept_all : (l : List A) → ((a : A) → In a l → test a ≡ true) → filter test l ≡ l
  kept_all [] h = refl
  kept_all (b ∷ l) h = ap₂ (λ t k. cond t (b ∷ k) k) (h b (inl refl)) (kept_all l (λ a k. h a (inr k)))

  -- where all that pass are equal, at most one is kept
  pub kept_few : (l : List A) → Distinct l → ((a b : A) → In a l → In b l → test a ≡ true → test b ≡ true → a ≡ b)
      → length (filter test l) ≤ 1
  kept_few l d same = by (filter test l) refl
    where
      by : (k : List A) → filter test l ≡ k → length k ≤ 1
      by [] e = omega arith
      by (a ∷ []) e = omega arith
      by (a ∷ (b ∷ k)) e =
          let apart : Distinct (a ∷ (b ∷ k)) = subst Distinct e (apart_kept (λ a. a) l d) in
          let first = kept_in l a (subst (In a) (sym e) (inl refl)) in
          let second = kept_in l b (subst (In b) (sym e) (inr (inl refl))) in
          absurd (apart.0.0 (same b a second.0 first.0 second.1 first.1))

  -- the filter of a mapped list
  pub kept_map : {B : Type 0} (f : B → A) (l : List B) → filter test (map f l) ≡ map f (filter (λ b. test (f b)) l)
  kept_map f [] = refl
  kept_map f (b ∷ l) = grind (arith, kept_map f l)

-- (`filter_agree` of the library asks that the tests agree everywhere)
pub kept_same : {A : Type 0} (p r : A → Bool) (l : List A) → ((a : A) → In a l → p a ≡ r a) → filter p l ≡ filter r l
kept_same p r [] h = refl
kept_same p r (b ∷ l) h = ap₂ (λ t k. cond t (b ∷ k) k) (h b (inl refl)) (kept_same p r l (λ a k. h a (inr k)))

pub some_same : {A : Type 0} (p r : A → Bool) (l : List A) → ((a : A) → In a l → p a ≡ r a) → list_any p l ≡ list_any r l
some_same p r [] h = refl
some_same p r (b ∷ l) h = ap₂ ◌||◌ (h b (inl refl)) (some_same p r l (λ a k. h a (inr k)))

pub map_same : {A B : Type 0} (f g : A → B) (l : List A) → ((a : A) → In a l → f a ≡ g a) → map f l ≡ map g l
map_same f g [] h = refl
map_same f g (b ∷ l) h = ap₂ ◌∷◌ (h b (inl refl)) (map_same f g l (λ a k. h a (inr k)))

-- what two filters keep overlaps
pub kept_overlap : {A : Type 0} (p r : A → Bool) (l : List A)
    → length (filter p l) + length (filter r l) ≤ length (filter r (filter p l)) + length l
kept_overlap p r [] = omega arith
kept_overlap p r (b ∷ l) = grind (arith, kept_overlap p r l)

-- what x tells apart has distinct images under x
pub distinct_images : {A K : Type 0} (x : A → K) (l : List A) → Apart x l → Distinct (map x l)
distinct_images x [] d = tt
distinct_images x (a ∷ l) d = (All-map (λ k. k ≡ x a → ⊥) x l d.0, distinct_images x l d.1)

-- ---- the numbers of a range

pub place_below : (d j : ℕ) → In j (range_with_len 0 d) → j < d
place_below d j k = omega (arith, counting_in 0 d j k)

pub in_places : (d j : ℕ) → j < d → In j (range_with_len 0 d)
in_places d j h = in_counting 0 d j (omega arith) (omega arith)
