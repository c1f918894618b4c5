-- From elements to codes: the polynomial that the decoder finds is the one that fits, and there is no other.
-- Assumes nothing.
use Rattle.std.proofs.Common.{◌≡◌, ℕ, zero, suc, ◌+◌, ◌-◌, ◌*◌, ◌<◌, ◌≤◌, Bool, true, false, cond, not, eqb, List, [], ◌∷◌, ◌++◌, map, length, get_or, take, filter, sym, refl, ap, ◌∙◌, subst, ap₂, add-one, arith}
use Rattle.std.specs.List.{AllByRecursion, list_all}
use Rattle.std.proofs.lemmas.List.{get_or-map, length-map, take_all, take_more}
use Rattle.std.proofs.lemmas.List.Sums.{length-filter, count_by-le-length}
use Rattle.std.proofs.ByRecursion.{All-get_or}
use Rattle.std.proofs.lemmas.Bool.{eq-eqb, ne_eqb, eqb-false, leb-true, le-leb, and_parts, and_from, not-true}
use Rattle.algebra.specs.Field.{Field}
use Rattle.algebra.specs.Polynomial.{Apart, eval, Through, interpolated}
use Rattle.algebra.specs.Count.{In}
use Rattle.algebra.specs.Decoder.{miss, missing, errors, place, down, Fit, collected}
use Rattle.algebra.proofs.Rules.{mul_zero}
use Rattle.algebra.proofs.Polynomials.{all_with, interpolation, length_interpolated, interpolated_through}
use Rattle.algebra.proofs.Candidate.{fit_is_answer, length_down, took, took_right}
use Rattle.fields.specs.Laws.{Codes, FieldLaws}
use Rattle.fields.specs.Elements.{elements}
use Rattle.fields.specs.ElementsLemmas.{zero_code, add_code, mul_code}
use Rattle.scheme.specs.Polynomial.{polynomial_value}
use Rattle.scheme.specs.Fitting.{polynomials, distinct, passes, fits, fitting, through}
use Rattle.scheme.specs.Held.{abscissae, ordinates, point_codes}
use Rattle.scheme.specs.declared.types.Point.{Point}
use Rattle.scheme.proofs.Asking.{all_from_every}
use Rattle.scheme.proofs.Enumerated.{kept_none, kept_one, polynomials_in, polynomials_are, polynomials_apart}

-- a test that all pass keeps all
kept_from_every : {A : Type 0} (test : A → Bool) (l : List A) → list_all test l ≡ true → length (filter test l) ≡ length l
kept_from_every test [] e = refl
kept_from_every test (a ∷ l) e =
    let h = and_parts (test a) (list_all test l) e in
    ap (λ b. length (cond b (a ∷ filter test l) (filter test l))) h.0 ∙ ap suc (kept_from_every test l h.1)

every_from_kept : {A : Type 0} (test : A → Bool) (l : List A) → length l ≤ length (filter test l) → list_all test l ≡ true
every_from_kept test [] h = refl
every_from_kept test (a ∷ l) h = by (test a) refl (λ k. every_from_kept test l k) h
  where
    by : (b : Bool) → test a ≡ b → (length l ≤ length (filter test l) → list_all test l ≡ true)
        → suc (length l) ≤ length (cond b (a ∷ filter test l) (filter test l)) → list_all test (a ∷ l) ≡ true
    by true e ih k = and_from (test a) (list_all test l) e (ih (omega arith))
    by false e ih k = absurd (omega (arith, length-filter test l, count_by-le-length test l))

module _ {I : Type 0} {Q : I → Type 0} (dec : (i : I) → Dec (Q i)) where
  none_missing : (l : List I) → AllByRecursion Q l → missing dec l ≡ 0
  none_missing [] h = refl
  none_missing (i ∷ l) h = by (dec i) (none_missing l h.1)
    where
      by : (d : Dec (Q i)) → missing dec l ≡ 0 → miss d + missing dec l ≡ 0
      by (yes q) k = omega arith
      by (no q) k = absurd (q h.0)

  all_from_none : (l : List I) → missing dec l ≡ 0 → AllByRecursion Q l
  all_from_none [] h = tt
  all_from_none (i ∷ l) h = by (dec i) (λ k. all_from_none l k) h
    where
      by : (d : Dec (Q i)) → (missing dec l ≡ 0 → AllByRecursion Q l) → miss d + missing dec l ≡ 0 → Q i × AllByRecursion Q l
      by (yes q) ih k = (q, ih (omega arith))
      by (no q) ih k = absurd (omega arith)

  all_missing : (l : List I) → ((i : I) → Q i → ⊥) → missing dec l ≡ length l
  all_missing [] h = refl
  all_missing (i ∷ l) h = by (dec i) (all_missing l h)
    where
      by : (d : Dec (Q i)) → missing dec l ≡ length l → miss d + missing dec l ≡ suc (length l)
      by (yes q) k = absurd (h i q)
      by (no q) k = omega arith

distinct_at : (l : List ℕ) → distinct l ≡ true → (i k : ℕ) → i < k → k < length l → get_or l i 0 ≡ get_or l k 0 → ⊥
distinct_at [] e i k h b q = omega arith
distinct_at (a ∷ l) e i zero h b q = omega arith
distinct_at (a ∷ l) e zero (suc k) h b q =
    All-get_or (λ c. a ≡ c → ⊥) l k 0 (omega arith) (all_from_every (λ c. not (eqb a c)) (λ c. a ≡ c → ⊥) (λ c t. eqb-false a c (not-true (eqb a c) t)) l (and_parts _ _ e).0) q
distinct_at (a ∷ l) e (suc i) (suc k) h b q = distinct_at l (and_parts _ _ e).1 i k (omega arith) (omega arith) q

all_down : (P : ℕ → Type 0) (n : ℕ) → ((k : ℕ) → k < n → P k) → AllByRecursion P (down n)
all_down P zero h = tt
all_down P (suc n) h = (h n (omega arith), all_down P n (λ k l. h k (omega arith)))

module _ {E : Type 0} {C : Codes} {code : E → ℕ} (L : FieldLaws E C code) where
  abbrev X : Field E
  X = elements L

  -- ---- polynomials of elements and of codes

  pub value_code : (f : List E) (x : E) → polynomial_value C (map code f) (code x) ≡ code (eval X f x)
  value_code [] x = sym (zero_code L)
  value_code (c ∷ f) x =
      ap (λ v. C.sum (code c) (C.product (code x) v)) (value_code f x)
      ∙ sym (add_code L c (X.mul x (eval X f x)) ∙ ap (C.sum (code c)) (mul_code L x (eval X f x)))

  -- an element with the code of the value is the value
  pub value_is : (f : List E) (x r : E) → code r ≡ polynomial_value C (map code f) (code x) → r ≡ eval X f x
  value_is f x r e = L.code_injective _ _ (e ∙ value_code f x)

  codes_below : (f : List E) → AllByRecursion (λ a. a < C.size) (map code f)
  codes_below [] = tt
  codes_below (c ∷ f) = (L.code_below c, codes_below f)

  -- every list of codes is that of a list of elements
  lifted : (g : List ℕ) → AllByRecursion (λ a. a < C.size) g → (f : List E) × (map code f ≡ g)
  lifted [] h = ([], refl)
  lifted (a ∷ g) h =
      let c = L.code_onto a h.0 in
      let f = lifted g h.1 in
      (c.0 ∷ f.0, ap₂ ◌∷◌ c.1 f.1)

  -- ---- points

  module _ (points : List (Point E)) where
    abbrev P : List (ℕ × ℕ)
    P = point_codes code points

    abbrev x : ℕ → E
    x = place X (abscissae points)

    abbrev y : ℕ → E
    y = place X (ordinates points)

    abbrev n : ℕ
    n = length points

    long_P : length P ≡ n
    long_P = length-map points (λ (p : Point E). (code p.x, code p.y))

    -- where f passes through a point, its codes tell so
    pass_yes : (f : List E) (p : Point E) → eval X f p.x ≡ p.y → passes C (map code f) (code p.x, code p.y) ≡ true
    pass_yes f p e = eq-eqb _ _ (value_code f p.x ∙ ap code e)

    pass_no : (f : List E) (p : Point E) → (eval X f p.x ≡ p.y → ⊥) → passes C (map code f) (code p.x, code p.y) ≡ false
    pass_no f p k = ne_eqb _ _ (λ e. k (L.code_injective _ _ (sym (value_code f p.x) ∙ e)))

    -- whether f passes through p, and the points that it passes through
    abbrev on : (f : List E) (p : Point E) → Dec (eval X f p.x ≡ p.y)
    on f p = X.same (eval X f p.x) p.y

    abbrev hit : List E → List (Point E) → List (ℕ × ℕ)
    hit f l = filter (passes C (map code f)) (point_codes code l)

    agreed : (f : List E) (l : List (Point E)) → length (hit f l) + missing (on f) l ≡ length l
    agreed f [] = refl
    agreed f (p ∷ l) = by (on f p) (agreed f l)
      where
        by : (d : Dec (eval X f p.x ≡ p.y)) → length (hit f l) + missing (on f) l ≡ length l → length (hit f (p ∷ l)) + (miss d + missing (on f) l) ≡ suc (length l)
        by (yes e) ih =
            subst (λ b. length (cond b ((code p.x, code p.y) ∷ hit f l) (hit f l)) + (0 + missing (on f) l) ≡ suc (length l)) (sym (pass_yes f p e)) (omega arith)
        by (no k) ih =
            subst (λ b. length (cond b ((code p.x, code p.y) ∷ hit f l) (hit f l)) + (1 + missing (on f) l) ≡ suc (length l)) (sym (pass_no f p k)) (omega arith)

    missing_push : (f : List E) (l : List (Point E)) (p : Point E) → missing (on f) (l ++ p ∷ []) ≡ miss (on f p) + missing (on f) l
    missing_push f [] p = refl
    missing_push f (a ∷ l) p = omega (arith, missing_push f l p)

    -- the misses by numbers are the misses in the list
    errors_front : (f : List E) (d : Point E) (k : ℕ) → k ≤ n → errors X x y f (down k) ≡ missing (on f) (take k points)
    errors_front f d zero h = refl
    errors_front f d (suc k) h =
        let l : k < n = omega arith in
        let p = get_or points k d in
        let here : miss (X.same (eval X f (x k)) (y k)) ≡ miss (on f p) =
        ap₂ (λ a b. miss (X.same (eval X f a) b)) (get_or-map (λ (a : Point E). a.x) points k d X.zero l) (get_or-map (λ (a : Point E). a.y) points k d X.zero l) in
        let cut : take (suc k) points ≡ take k points ++ p ∷ [] = ap (λ m. take m points) (sym (add-one k)) ∙ take_more points k d l in
        ap₂ ◌+◌ here (errors_front f d k (omega arith)) ∙ sym (missing_push f (take k points) p) ∙ ap (missing (on f)) (sym cut)

    errors_all : (f : List E) → length (hit f points) + errors X x y f (down n) ≡ n
    errors_all f = by points refl
      where
        by : (l : List (Point E)) → points ≡ l → length (hit f points) + errors X x y f (down n) ≡ n
        by [] e = subst (λ (l : List (Point E)). length (hit f l) + errors X (place X (abscissae l)) (place X (ordinates l)) f (down (length l)) ≡ length l) (sym e) refl
        by (d ∷ l) e = let h = errors_front f d n (omega arith) ∙ ap (missing (on f)) (take_all n points (omega arith)) in omega (arith, agreed f points)

    -- ---- distinct abscissae

    code_x : (k : ℕ) → k < n → code (x k) ≡ get_or (map (λ p. p.0) P) k 0
    code_x k h = by points refl
      where
        by : (l : List (Point E)) → points ≡ l → code (x k) ≡ get_or (map (λ p. p.0) P) k 0
        by [] e = absurd (omega (arith, ap length e))
        by (d ∷ l) e =
            let h2 : k < length P = omega (arith, long_P) in
            ap code (get_or-map (λ (a : Point E). a.x) points k d X.zero h)
            ∙ sym (get_or-map (λ (p : ℕ × ℕ). p.0) P k (0, 0) 0 h2 ∙ ap (λ (p : ℕ × ℕ). p.0) (get_or-map (λ (a : Point E). (code a.x, code a.y)) points k d (0, 0) h))

    pub apart_x : distinct (map (λ p. p.0) P) ≡ true → (k : ℕ) → k ≤ n → Apart x (down k)
    apart_x e zero h = tt
    apart_x e (suc k) h =
        let long : length (map (λ (p : ℕ × ℕ). p.0) P) ≡ n = length-map P (λ (p : ℕ × ℕ). p.0) ∙ long_P in (
          all_down (λ j. x j ≡ x k → ⊥) k (λ j l q. distinct_at (map (λ p. p.0) P) e j k l (omega arith) (sym (code_x j (omega arith)) ∙ ap code q ∙ code_x k (omega arith))),
          apart_x e k (omega arith),
        )

    -- ---- what fits

    module _ (t : ℕ) (apart : distinct (map (λ p. p.0) P) ≡ true) where
      pub fits_few : (f : List E) → fits C P t (map code f) ≡ true → errors X x y f (down n) ≤ t
      fits_few f e = omega (arith, long_P, leb-true _ _ e, errors_all f)

      pub few_fits : (f : List E) → errors X x y f (down n) ≤ t → fits C P t (map code f) ≡ true
      few_fits f h = le-leb _ _ (omega (arith, long_P, errors_all f))

      -- a fitting list of codes is that of a list of elements that fits
      fit_elements : (g : List ℕ) → In g (polynomials C.size (suc t)) → fits C P t g ≡ true
          → (f : List E) × (map code f ≡ g) × Fit X (abscissae points) (ordinates points) t n f
      fit_elements g k e =
          let h = polynomials_are C.size (suc t) g k in
          let f = lifted g h.1 in
          let long : length f.0 ≡ suc t = sym (length-map f.0 code) ∙ ap length f.1 ∙ h.0 in
          (f.0, f.1, (omega (arith, long), fits_few f.0 (subst (λ g. fits C P t g ≡ true) (sym f.1) e)))

      pub fitting_one : 3 * t + 1 ≤ n → (f : List E) → Fit X (abscissae points) (ordinates points) t n f → fitting C P t ≡ map code f ∷ []
      fitting_one enough f h =
          kept_one (fits C P t) (polynomials C.size (suc t)) (map code f) (polynomials_apart C.size (suc t))
          (polynomials_in C.size (suc t) (map code f) (length-map f code ∙ omega (arith, h.0), codes_below f)) (few_fits f h.1)
          (λ g k e.
          let r = fit_elements g k e in
          let d = apart_x apart n (omega arith) in
          sym r.1 ∙ ap (map code)
          (sym (fit_is_answer X (abscissae points) (ordinates points) t n d enough r.0 r.2) ∙ fit_is_answer X (abscissae points) (ordinates points) t n d enough f h))

      pub fitting_none : ((f : List E) → Fit X (abscissae points) (ordinates points) t n f → ⊥) → fitting C P t ≡ []
      fitting_none none = kept_none (fits C P t) (polynomials C.size (suc t)) (λ g k. by g k (fits C P t g) refl)
        where
          by : (g : List ℕ) → In g (polynomials C.size (suc t)) → (b : Bool) → fits C P t g ≡ b → fits C P t g ≡ false
          by g k true e = let r = fit_elements g k e in absurd (none r.0 r.2)
          by g k false e = e

    -- ---- interpolation

    through_passes : (f : List E) → Through X x y f (down n) → list_all (passes C (map code f)) P ≡ true
    through_passes f h = every_from_kept (passes C (map code f)) P (omega (arith, long_P, errors_all f, none_missing (λ i. X.same (eval X f (x i)) (y i)) (down n) h))

    passes_through : (f : List E) → list_all (passes C (map code f)) P ≡ true → Through X x y f (down n)
    passes_through f e =
        all_from_none (λ i. X.same (eval X f (x i)) (y i)) (down n) (omega (arith, long_P, errors_all f, kept_from_every (passes C (map code f)) P e))

    -- what `read_off` collects where nothing is passed over: the one polynomial through all points
    pub through_one : 1 ≤ n → distinct (map (λ p. p.0) P) ≡ true → (e : List E) → e ≡ X.one ∷ []
        → through C P ≡ map code (collected X x y e (n - 1) (down n)).top ∷ []
    through_one some apart e unit =
        let d = apart_x apart n (omega arith) in
        let f = interpolated X x (down n) y in
        let on = interpolated_through X x (down n) y d in
        let lf : length f ≡ n = length_interpolated X x (down n) y ∙ length_down n in
        let ls : length f ≡ suc (n - 1) = omega arith in
        let got : (collected X x y e (n - 1) (down n)).top ≡ f =
        took_right X x y f e (n - 1) (down n) (collected X x y e (n - 1) (down n)) (took X x y f e (n - 1) (down n) d (all_with (λ i h _ _. h) (down n) on on)) ls
        (omega (arith, length_down n, all_missing (λ i. X.same (eval X e (x i)) X.zero) (down n) (λ i z. not_root (x i) z))) in
        kept_one (λ g. list_all (passes C g) P) (polynomials C.size (length P)) (map code f) (polynomials_apart C.size (length P))
        (polynomials_in C.size (length P) (map code f) (length-map f code ∙ lf ∙ sym long_P, codes_below f)) (through_passes f on)
        (λ g k h.
        let r = polynomials_are C.size (length P) g k in
        let b = lifted g r.1 in
        let lb : length b.0 ≡ length (down n) = sym (length-map b.0 code) ∙ ap length b.1 ∙ r.0 ∙ long_P ∙ sym (length_down n) in
        sym b.1 ∙ ap (map code) (interpolation X x (down n) y b.0 d lb (passes_through b.0 (subst (λ g. list_all (passes C g) P ≡ true) (sym b.1) h))))
        ∙ ap (λ f. map code f ∷ []) (sym got)
      where
        -- the polynomial 1 has no root
        not_root : (z : E) → eval X e z ≡ X.zero → ⊥
        not_root z q =
            X.one_not_zero (sym (ap (λ f. eval X f z) unit ∙ ap (X.add X.one) (mul_zero X z) ∙ X.add_zero X.one) ∙ q)
