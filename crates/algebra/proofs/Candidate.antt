-- The candidate of the decoder is the polynomial of t + 1 coefficients that misses at most t of at least 3·t + 1 points, if there is one.
-- Assumes nothing.
use Rattle.std.proofs.Common.{◌≡◌, ℕ, zero, suc, ◌+◌, ◌*◌, ◌≤◌, Bool, true, false, cond, leb, List, [], ◌∷◌, length, sym, refl, ap, ◌∙◌, ap₂, arith}
use Rattle.std.specs.List.{AllByRecursion}
use Rattle.std.proofs.lemmas.Bool.{cases_eq, cond_both, leb-true, leb-false}
use Rattle.algebra.specs.Field.{Field}
use Rattle.algebra.specs.Polynomial.{Apart, eval, plus, scale}
use Rattle.algebra.specs.Decoder.{having, miss, missing, Zero, Ratio, State, discrepancy, errors, run, chosen, extended, empty, unless, collected, place, down, answer, Fit}
use Rattle.algebra.proofs.Rules.{zero_mul, mul_zero, zero_factor}
use Rattle.algebra.proofs.Counting.{all_with}
use Rattle.algebra.proofs.Polynomials.{sub_zero, fraction, eval_add_multiple, eval_times_root, length_times_root, same_list}
use Rattle.algebra.proofs.Unique.{length_scale, length_plus_right, key_at, few_roots, lead_not_zero}
use Rattle.algebra.proofs.Filter.{length_having}
use Rattle.algebra.proofs.Decoding.{Inv, inv_run}

module _ {K : Type 0} (X : Field K) where
  open X use {zero as 𝟘, one as 𝟙, add as ◌⊕◌, mul as ◌⊗◌, neg as ⊖◌, inv, add_zero, add_neg, mul_comm, one_not_zero, same}

  infixl 65 ◌⊕◌
  infixl 70 ◌⊗◌
  infix 80 ⊖◌
  module _ {I : Type 0} (x y : I → K) where
    -- A ratio after the points l are taken: top passes through them and has one coefficient for each, and the roots of bottom are
    -- their abscissae.
    pub record Held (l : List I) (p : Ratio X) : Type 0 where
      pub long : length p.top ≡ length l
      pub long_e : length p.bottom ≡ suc (length l)
      pub on : AllByRecursion (λ j. eval X p.top (x j) ≡ y j) l
      pub roots : AllByRecursion (λ j. eval X p.bottom (x j) ≡ 𝟘) l
      pub others : (z : K) → AllByRecursion (λ j. x j ≡ z → ⊥) l → eval X p.bottom z ≡ 𝟘 → ⊥

    pub held_none : Held [] (empty X)
    held_none = record {
      long = refl;
      long_e = refl;
      on = tt;
      roots = tt;
      others = λ z h e. one_not_zero (sym (ap (λ w. 𝟙 ⊕ w) (mul_zero X z) ∙ add_zero 𝟙) ∙ e);
    }

    -- a further point, with an abscissa of its own, can be taken
    pub held_more : (i : I) (l : List I) (p : Ratio X) → Held l p → AllByRecursion (λ j. x j ≡ x i → ⊥) l → Held (i ∷ l) (extended X p (x i) (y i))
    held_more i l p h apart =
        let d = eval X p.bottom (x i) in
        let b = eval X p.top (x i) in
        let c = (y i ⊕ ⊖ b) ⊗ inv d in
        let nd : d ≡ 𝟘 → ⊥ = h.others (x i) apart in
        let value : (z : K) → eval X (plus X p.top (scale X c p.bottom)) z ≡ eval X p.top z ⊕ c ⊗ eval X p.bottom z =
        λ z. eval_add_multiple X p.top c p.bottom z in
        record {
          long =
              length_plus_right X p.top (scale X c p.bottom) (omega (arith, length_scale X c p.bottom, h.long, h.long_e))
              ∙ length_scale X c p.bottom ∙ h.long_e;
          long_e = length_times_root X (x i) p.bottom (omega (arith, h.long_e)) ∙ ap suc h.long_e;
          on = (
            value (x i) ∙ ap (λ w. b ⊕ w) (mul_comm c d) ∙ fraction X (y i) b d nd,
            all_with (λ j e r. value (x j) ∙ ap₂ (λ s w. s ⊕ c ⊗ w) e r ∙ ap (λ w. y j ⊕ w) (mul_zero X c) ∙ add_zero (y j))
                l h.on h.roots,
          );
          roots = (
            eval_times_root X (x i) p.bottom (x i) ∙ ap (λ w. w ⊗ d) (add_neg (x i)) ∙ zero_mul X d,
            all_with (λ j r _. eval_times_root X (x i) p.bottom (x j) ∙ ap (λ w. (x j ⊕ ⊖ (x i)) ⊗ w) r ∙ mul_zero X _)
                l h.roots h.roots,
          );
          others = λ z a e.
              h.others z a.1
              (zero_factor X (z ⊕ ⊖ (x i)) (eval X p.bottom z) (sym (eval_times_root X (x i) p.bottom z) ∙ e)
              (λ q. a.0 (sym (sub_zero X z (x i) q))));
        }

    -- the collection, where h is the polynomial whose roots are left out and f the polynomial to be found
    module _ (f h : List K) (t : ℕ) where
      -- whether the abscissa of the point i is a root of h
      abbrev root : (i : I) → Dec (eval X h (x i) ≡ 𝟘)
      root i = same (eval X h (x i)) 𝟘

      -- What holds after the points `is` were offered: some of them are taken, at most t + 1, f passes through these, and as long as
      -- there are at most t they are all that are not at a root of h.
      pub record Took (is : List I) (p : Ratio X) : Type 0 where
        pub places : List I
        pub held : Held places p
        pub away : (z : K) → AllByRecursion (λ j. x j ≡ z → ⊥) is → AllByRecursion (λ j. x j ≡ z → ⊥) places
        pub apart : Apart x places
        pub right : AllByRecursion (λ j. eval X f (x j) ≡ y j) places
        pub full : length places ≤ t → length places ≡ missing root is
        pub short : length places ≤ suc t

      -- a further point is not taken
      passed_over : (i : I) (is : List I) (p : Ratio X) (k : Took is p)
          → (length k.places ≤ t → length k.places ≡ missing root (i ∷ is)) → Took (i ∷ is) p
      passed_over i is p k full =
          record { places = k.places; held = k.held; away = λ z a. k.away z a.1; apart = k.apart; right = k.right; full = full; short = k.short }

      -- a further point is offered: t + 1 points are taken already, its abscissa is a root of h, or it is taken
      took_more : (i : I) (is : List I) (p : Ratio X) → Took is p → AllByRecursion (λ j. x j ≡ x i → ⊥) is
          → ((eval X h (x i) ≡ 𝟘 → ⊥) → eval X f (x i) ≡ y i) → (b : Bool) → leb (length p.top) t ≡ b
          → (e : Dec (eval X h (x i) ≡ 𝟘)) → root i ≡ e → Took (i ∷ is) (cond b (unless X e p (extended X p (x i) (y i))) p)
      took_more i is p k d r false q e s = passed_over i is p k (λ l. absurd (omega (arith, leb-false _ _ q, k.held.long)))
      took_more i is p k d r true q (yes e) s = passed_over i is p k (λ l. omega (arith, k.full l, ap miss s))
      took_more i is p k d r true q (no n) s = record {
        places = i ∷ k.places;
        held = held_more i k.places p k.held (k.away (x i) d);
        away = λ z a. (a.0, k.away z a.1);
        apart = (k.away (x i) d, k.apart);
        right = (r n, k.right);
        full = λ l. omega (arith, k.full (omega (arith, l)), ap miss s);
        short = omega (arith, leb-true _ _ q, k.held.long);
      }

      pub took : (is : List I) → Apart x is → AllByRecursion (λ i. (eval X h (x i) ≡ 𝟘 → ⊥) → eval X f (x i) ≡ y i) is
          → Took is (collected X x y h t is)
      took [] d r =
          record { places = []; held = held_none; away = λ z a. tt; apart = tt; right = tt; full = λ l. refl; short = omega arith }
      took (i ∷ is) d r =
          let p = collected X x y h t is in
          took_more i is p (took is d.1 r.1) d.0 r.0 (leb (length p.top) t) refl (root i) refl

      -- where t + 1 points or more are not at a root of h, the collection is f
      pub took_right : (is : List I) (p : Ratio X) → Took is p → length f ≡ suc t → suc t ≤ missing root is → p.top ≡ f
      took_right is p k lf enough =
          let whole : length k.places ≡ suc t = exact k.places k.full k.short in
          same_list X x k.places p.top f k.apart (k.held.long ∙ whole ∙ sym lf) (omega (arith, k.held.long))
          (all_with (λ j a b. a ∙ sym b) k.places k.held.on k.right)
        where
          exact : (l : List I) → (length l ≤ t → length l ≡ missing root is) → length l ≤ suc t → length l ≡ suc t
          exact l full short = grind arith

    -- the decoder finds f, if f misses at most t of the 3·t + 1 points
    module _ (t : ℕ) (is : List I) (d : Apart x is) (enough : length is ≡ 3 * t + 1)
        (f : List K) (lf : length f ≡ suc t) (ef : errors X x y f is ≤ t) where
      -- it is enough that the ratio is short, has the discrepancy zero at each point, and is not 0/0
      from_ratio : (r : Ratio X) → length r.top ≤ t + t + 1 → length r.bottom ≤ suc t
          → AllByRecursion (λ i. eval X r.top (x i) ≡ y i ⊗ eval X r.bottom (x i)) is → (Zero X r.top → Zero X r.bottom → ⊥)
          → (collected X x y r.bottom t is).top ≡ f
      from_ratio r lq le on some =
          let many : t + 2 * t + 1 ≤ length is = omega arith in
          let good : AllByRecursion (λ i. (eval X r.bottom (x i) ≡ 𝟘 → ⊥) → eval X f (x i) ≡ y i) is =
          all_with (λ i k _. λ n. key_at X x y t t is d r.top r.bottom lq le on many f lf ef i k n) is on on in
          let few : length (having (root f r.bottom t) is) ≤ t =
          few_roots X x y t t is d r.top r.bottom lq le on many some in
          let count = length_having (root f r.bottom t) is in
          took_right f r.bottom t is (collected X x y r.bottom t is) (took f r.bottom t is d good) lf (omega (arith, few, count))

      -- and one of the two ratios is short
      pub right : (collected X x y (chosen X x y t t (run X x y t is)).bottom t is).top ≡ f
      right =
          cond_both (leb (length s.first.top) (t + t + 1)) s.first s.second (λ r. (collected X x y r.bottom t is).top ≡ f)
          (λ e.
          let l = leb-true _ _ e in
          from_ratio s.first l (omega (arith, h.low_a)) (sat s.first h.sat_a) (λ zq ze. lead_not_zero X s.first.top h.lead_a zq))
          (λ e.
          let l = leb-false _ _ e in
          from_ratio s.second (omega (arith, h.low_b, h.sum)) (omega (arith, h.sum)) (sat s.second h.sat_b)
          (λ zq ze. lead_not_zero X s.second.bottom h.lead_b ze))
        where
          s : State X
          s = run X x y t is

          h : Inv X x y t is s
          h = inv_run X x y t is

          sat : (r : Ratio X) → AllByRecursion (λ i. discrepancy X x y r i ≡ 𝟘) is
              → AllByRecursion (λ i. eval X r.top (x i) ≡ y i ⊗ eval X r.bottom (x i)) is
          sat r k = all_with (λ i m _. sub_zero X _ _ m) is k k

-- the first k of n points also have distinct abscissae, and no more of them are missed
module _ {K : Type 0} (X : Field K) (x y : ℕ → K) where
  down_apart : (n k : ℕ) → k ≤ n → Apart x (down n) → Apart x (down k)
  down_apart zero k l a = grind arith
  down_apart (suc n) k l a = grind (arith, down_apart n k, cases_eq k (suc n))

  down_errors : (f : List K) (n k : ℕ) → k ≤ n → errors X x y f (down k) ≤ errors X x y f (down n)
  down_errors f zero k l = grind arith
  down_errors f (suc n) k l = grind (arith, down_errors f n k, cases_eq k (suc n))

pub length_down : (n : ℕ) → length (down n) ≡ n
length_down zero = refl
length_down (suc n) = ap suc (length_down n)

-- a polynomial that misses at most t of n points, where n is at least 3·t + 1, is the candidate from the first 3·t + 1 points
pub fit_is_answer : {K : Type 0} (X : Field K) (xs ys : List K) (t n : ℕ) → Apart (place X xs) (down n) → 3 * t + 1 ≤ n
    → (f : List K) → Fit X xs ys t n f → answer X xs ys t ≡ f
fit_is_answer X xs ys t n a enough f fit =
    right X (place X xs) (place X ys) t (down (3 * t + 1)) (down_apart X (place X xs) (place X ys) n (3 * t + 1) enough a)
    (length_down (3 * t + 1)) f (omega (arith, fit.0))
    (omega (arith, fit.1, down_errors X (place X xs) (place X ys) f n (3 * t + 1) enough))
