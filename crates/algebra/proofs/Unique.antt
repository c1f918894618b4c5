-- Two polynomials that miss few points are equal. And where a ratio q/e has the discrepancy zero at each point, a polynomial that misses
-- few of the points is q/e, and few of the points are at a root of e.
-- Assumes nothing.
use Rattle.std.proofs.Common.{◌≡◌, ℕ, zero, suc, ◌+◌, ◌*◌, ◌≤◌, List, [], ◌∷◌, map, length, sym, refl, ap, ◌∙◌, subst, ap₂, arith}
use Rattle.std.specs.List.{AllByRecursion}
use Rattle.std.proofs.lemmas.List.{length-map}
use Rattle.algebra.specs.Field.{Field}
use Rattle.algebra.specs.Polynomial.{Apart, eval, plus, scale, times}
use Rattle.algebra.specs.Decoder.{having, Zero, Lead, errors}
use Rattle.algebra.proofs.Rules.{mul_zero}
use Rattle.algebra.proofs.Normal.{v, :0, ◌:+◌, ◌:*◌, ring}
use Rattle.algebra.proofs.Counting.{all_with}
use Rattle.algebra.proofs.Polynomials.{mul_cancel, eval_times, agree, same_list}
use Rattle.algebra.proofs.Filter.{length_having, having_all, all_having, apart_having, missing_having}

module _ {K : Type 0} (F : Field K) where
  open F use {zero as 𝟘, add as ◌⊕◌, mul as ◌⊗◌, mul_comm, same}

  infixl 65 ◌⊕◌
  infixl 70 ◌⊗◌
  -- how many coefficients a multiple, a sum and a product have
  pub length_scale : (k : K) (f : List K) → length (scale F k f) ≡ length f
  length_scale k [] = refl
  length_scale k (c ∷ f) = ap suc (length_scale k f)

  pub length_plus_le : (n : ℕ) (f g : List K) → length f ≤ n → length g ≤ n → length (plus F f g) ≤ n
  length_plus_le n [] g a b = b
  length_plus_le n (c ∷ f) [] a b = a
  length_plus_le zero (c ∷ f) (d ∷ g) a b = absurd (omega arith)
  length_plus_le (suc n) (c ∷ f) (d ∷ g) a b = let h = length_plus_le n f g (omega arith) (omega arith) in omega arith

  -- a sum is as long as its longer part
  pub length_plus_left : (f g : List K) → length g ≤ length f → length (plus F f g) ≡ length f
  length_plus_left [] [] l = refl
  length_plus_left [] (d ∷ g) l = absurd (omega arith)
  length_plus_left (c ∷ f) [] l = refl
  length_plus_left (c ∷ f) (d ∷ g) l = ap suc (length_plus_left f g (omega arith))

  pub length_plus_right : (f g : List K) → length f ≤ length g → length (plus F f g) ≡ length g
  length_plus_right [] g l = refl
  length_plus_right (c ∷ f) [] l = absurd (omega arith)
  length_plus_right (c ∷ f) (d ∷ g) l = ap suc (length_plus_right f g (omega arith))

  pub length_times_le : (m n : ℕ) (f g : List K) → length f ≤ suc m → length g ≤ suc n → length (times F f g) ≤ suc (m + n)
  length_times_le m n [] g a b = omega arith
  length_times_le m n (c ∷ []) g a b = length_plus_le (suc (m + n)) (scale F c g) (𝟘 ∷ []) (omega (arith, length_scale c g)) (omega arith)
  length_times_le zero n (c ∷ (d ∷ f)) g a b = absurd (omega arith)
  length_times_le (suc m) n (c ∷ (d ∷ f)) g a b =
      length_plus_le (suc (suc m + n)) (scale F c g) (𝟘 ∷ times F (d ∷ f) g) (omega (arith, length_scale c g))
      (omega (arith, length_times_le m n (d ∷ f) g (omega arith) b))

  -- a polynomial whose coefficients are zero is zero everywhere
  pub eval_zero : (f : List K) → Zero F f → (z : K) → eval F f z ≡ 𝟘
  eval_zero [] h z = refl
  eval_zero (c ∷ f) h z = ap₂ (λ a b. a ⊕ z ⊗ b) h.0 (eval_zero f h.1 z) ∙ ring F (z ∷ []) (:0 :+ v 0 :* :0) :0 tt

  -- as many zeros as f has coefficients
  zeros : (f : List K) → Zero F (map (λ _. 𝟘) f)
  zeros [] = tt
  zeros (c ∷ f) = (refl, zeros f)

  pub lead_not_zero : (f : List K) → Lead F f → Zero F f → ⊥
  lead_not_zero [] h z = h
  lead_not_zero (c ∷ []) h z = h z.0
  lead_not_zero (c ∷ (d ∷ f)) h z = lead_not_zero (d ∷ f) h z.1

  module _ {I : Type 0} (x : I → K) where
    -- a polynomial with as many roots as coefficients is zero
    pub roots_zero : (is : List I) (f : List K) → Apart x is → length f ≤ length is → AllByRecursion (λ i. eval F f (x i) ≡ 𝟘) is → Zero F f
    roots_zero is f d l h =
        let g = map (λ _. 𝟘) f in
        let e = same_list F x is f g d (sym (length-map f (λ _. 𝟘))) l (all_with (λ i p _. p ∙ sym (eval_zero g (zeros f) (x i))) is h h) in
        subst (Zero F) (sym e) (zeros f)

  module _ {I : Type 0} (x y : I → K) (t m : ℕ) (is : List I) (d : Apart x is) where
    -- whether f passes through the point i
    abbrev dec_on : (f : List K) (i : I) → Dec (eval F f (x i) ≡ y i)
    dec_on f i = same (eval F f (x i)) (y i)

    -- polynomials of t + 1 coefficients that each miss at most m of t + 2·m + 1 points are equal: they agree at t + 1 points
    pub unique_decoding : (f g : List K) → length f ≡ suc t → length g ≡ suc t → t + 2 * m + 1 ≤ length is → errors F x y f is ≤ m
        → errors F x y g is ≤ m → f ≡ g
    unique_decoding f g lf lg enough ef eg =
        let us = having (dec_on f) is in
        let ws = having (dec_on g) us in
        let n : suc t ≤ length ws =
        omega (arith, length_having (dec_on f) is, length_having (dec_on g) us, missing_having (dec_on f) (dec_on g) is) in
        same_list F x ws f g (apart_having (dec_on g) x us (apart_having (dec_on f) x is d)) (omega arith) (omega arith)
        (all_with (λ i p q. p ∙ sym q) ws (all_having (dec_on g) _ us (having_all (dec_on f) is)) (having_all (dec_on g) us))

    -- a ratio q/e with at most m + t + 1 and m + 1 coefficients, whose discrepancy is zero at each of the points
    module _ (q e : List K) (lq : length q ≤ m + t + 1) (le : length e ≤ suc m)
        (on : AllByRecursion (λ i. eval F q (x i) ≡ y i ⊗ eval F e (x i)) is) (enough : t + 2 * m + 1 ≤ length is) where
      module _ (p : List K) (lp : length p ≡ suc t) (ep : errors F x y p is ≤ m) where
        -- p·e and q agree at each point through which p passes, and these are enough
        pub key : (z : K) → eval F q z ≡ eval F p z ⊗ eval F e z
        key z =
            let us = having (dec_on p) is in
            let n : m + t + 1 ≤ length us = omega (arith, length_having (dec_on p) is) in
            agree F x us q (times F p e) (apart_having (dec_on p) x is d) (omega arith)
            (omega (arith, length_times_le t m p e (omega arith) le))
            (all_with (λ i k h. h ∙ ap (λ w. w ⊗ eval F e (x i)) (sym k) ∙ sym (eval_times F p e (x i))) us (having_all (dec_on p) is)
            (all_having (dec_on p) _ is on)) z ∙ eval_times F p e z

        -- so p passes through each point at which e is not zero
        pub key_at : (i : I) → eval F q (x i) ≡ y i ⊗ eval F e (x i) → (eval F e (x i) ≡ 𝟘 → ⊥) → eval F p (x i) ≡ y i
        key_at i h n = mul_cancel F (eval F e (x i)) _ _ n (mul_comm _ _ ∙ sym (key (x i)) ∙ h ∙ mul_comm _ _)

      module _ (some : Zero F q → Zero F e → ⊥) where
        -- if e were zero, q would be zero at all of the points, and so q would be zero too
        pub e_not_zero : Zero F e → ⊥
        e_not_zero z =
            some (roots_zero x is q d (omega arith)
            (all_with (λ i h _. h ∙ ap (λ w. y i ⊗ w) (eval_zero e z (x i)) ∙ mul_zero F (y i)) is on on)) z

        -- whether the abscissa of the point i is a root of e
        abbrev pub dec_root : (i : I) → Dec (eval F e (x i) ≡ 𝟘)
        dec_root i = same (eval F e (x i)) 𝟘

        -- so e has at most m roots among the abscissae
        pub few_roots : length (having dec_root is) ≤ m
        few_roots =
            let few : suc m ≤ length (having dec_root is) → ⊥ =
            λ h. e_not_zero
            (roots_zero x (having dec_root is) e (apart_having dec_root x is d) (omega arith) (having_all dec_root is)) in
            omega (arith, few)
