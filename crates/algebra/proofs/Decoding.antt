-- The run of the decoder: after each step both ratios have the discrepancy zero at all points so far, and they are as short as the
-- choice of the candidate needs.
-- Assumes nothing.
use Rattle.std.proofs.Common.{◌≡◌, ℕ, suc, ◌+◌, ◌-◌, ◌<◌, ◌≤◌, Bool, true, false, not, T, ltb, List, [], ◌∷◌, length, sym, refl, ap, ◌∙◌, subst, ap₂, arith, ltb→lt, nltb→le}
use Rattle.std.specs.List.{AllByRecursion}
use Rattle.algebra.specs.Field.{Field}
use Rattle.algebra.specs.Polynomial.{eval, plus, scale, lin, times_root}
use Rattle.algebra.specs.Decoder.{Lead, Ratio, State, start, raise, plus_multiple, discrepancy, move, step, run}
use Rattle.algebra.proofs.Rules.{mul_zero}
use Rattle.algebra.proofs.Normal.{v, :0, :1, ◌:+◌, ◌:-◌, ◌:*◌, :-◌, ring, ring_from}
use Rattle.algebra.proofs.Counting.{all_with}
use Rattle.algebra.proofs.Polynomials.{eval_add_multiple, eval_times_root, length_lin, length_times_root, times_root_within}
use Rattle.algebra.proofs.Unique.{length_scale, length_plus_le, length_plus_left}

module _ {K : Type 0} (F : Field K) where
  open F use {zero as 𝟘, add as ◌⊕◌, mul as ◌⊗◌, neg as ⊖◌, inv, mul_inv, one_not_zero, same}

  infixl 65 ◌⊕◌
  infixl 70 ◌⊗◌
  infix 80 ⊖◌
  -- the last coefficient stays, and is not zero, in a sum with a shorter polynomial and in a product with X - a
  lead_plus : (f g : List K) → Lead F f → length g < length f → Lead F (plus F f g)
  lead_plus [] g h l = absurd h
  lead_plus (c ∷ f) [] h l = h
  lead_plus (c ∷ []) (e ∷ g) h l = absurd (omega arith)
  lead_plus (c ∷ (d ∷ f)) (e ∷ []) h l = h
  lead_plus (c ∷ (d ∷ f)) (e ∷ (k ∷ g)) h l = lead_plus (d ∷ f) (k ∷ g) h (omega arith)

  lead_lin : (a b : K) (f : List K) → Lead F f → Lead F (lin F a b f)
  lead_lin a b [] h = absurd h
  lead_lin a b (c ∷ []) h = h
  lead_lin a b (c ∷ (d ∷ f)) h = lead_lin a c (d ∷ f) h

  lead_times_root : (a : K) (f : List K) → Lead F f → Lead F (times_root F a f)
  lead_times_root a [] h = h
  lead_times_root a (c ∷ f) h = lead_lin a 𝟘 (c ∷ f) h

  lead_positive : (f : List K) → Lead F f → 0 < length f
  lead_positive [] h = absurd h
  lead_positive (c ∷ f) h = omega arith

  longer : (a : K) (f : List K) → Lead F f → length (times_root F a f) ≡ suc (length f)
  longer a f h = length_times_root F a f (lead_positive f h)

  -- as `times_root_within`, where t is subtracted from the bound
  times_root_le : (a : K) (f : List K) (m t : ℕ) → length f ≤ m - t → length (times_root F a f) ≤ suc m - t
  times_root_le a [] m t h = omega arith
  times_root_le a (c ∷ f) m t h = omega (arith, length_lin F a 𝟘 (c ∷ f))

  module _ {I : Type 0} (x y : I → K) (t : ℕ) where
    -- the discrepancy at the point i is zero
    abbrev pub Sat : Ratio F → I → Type 0
    Sat p i = discrepancy F x y p i ≡ 𝟘

    -- raising multiplies the discrepancy by x i - z, and so it is zero at the abscissa z
    discrepancy_raise : (z : K) (p : Ratio F) (i : I) → discrepancy F x y (raise F z p) i ≡ (x i ⊕ ⊖ z) ⊗ discrepancy F x y p i
    discrepancy_raise z p i =
        ap₂ (λ a b. a ⊕ ⊖ (y i ⊗ b)) (eval_times_root F z p.top (x i)) (eval_times_root F z p.bottom (x i))
        ∙ ring F (x i ∷ z ∷ y i ∷ eval F p.top (x i) ∷ eval F p.bottom (x i) ∷ [])
        ((v 0 :- v 1) :* v 3 :- v 2 :* ((v 0 :- v 1) :* v 4)) ((v 0 :- v 1) :* (v 3 :- v 2 :* v 4)) tt

    -- the discrepancy of p + c·r; it is zero where those of p and r are, and where c is minus the quotient of the two
    discrepancy_add : (p : Ratio F) (c : K) (r : Ratio F) (i : I)
        → discrepancy F x y (plus_multiple F p c r) i ≡ discrepancy F x y p i ⊕ c ⊗ discrepancy F x y r i
    discrepancy_add p c r i =
        ap₂ (λ a b. a ⊕ ⊖ (y i ⊗ b))
        (eval_add_multiple F p.top c r.top (x i)) (eval_add_multiple F p.bottom c r.bottom (x i))
        ∙ ring F (c ∷ y i ∷ eval F p.top (x i) ∷ eval F p.bottom (x i) ∷ eval F r.top (x i) ∷ eval F r.bottom (x i) ∷ [])
        ((v 2 :+ v 0 :* v 4) :- v 1 :* (v 3 :+ v 0 :* v 5)) ((v 2 :- v 1 :* v 3) :+ v 0 :* (v 4 :- v 1 :* v 5)) tt

    raise_here : (p : Ratio F) (i : I) → Sat (raise F (x i) p) i
    raise_here p i = discrepancy_raise (x i) p i ∙ ring F (x i ∷ discrepancy F x y p i ∷ []) ((v 0 :- v 0) :* v 1) :0 tt

    raise_sat : (z : K) (p : Ratio F) (i : I) → Sat p i → Sat (raise F z p) i
    raise_sat z p i h = discrepancy_raise z p i ∙ ap (λ w. (x i ⊕ ⊖ z) ⊗ w) h ∙ mul_zero F _

    add_sat : (p : Ratio F) (c : K) (r : Ratio F) (i : I) → Sat p i → Sat r i → Sat (plus_multiple F p c r) i
    add_sat p c r i h k = discrepancy_add p c r i ∙ ap₂ (λ a b. a ⊕ c ⊗ b) h k ∙ ring F (c ∷ []) (:0 :+ v 0 :* :0) :0 tt

    add_here : (p r : Ratio F) (i : I) → (discrepancy F x y r i ≡ 𝟘 → ⊥)
        → Sat (plus_multiple F p (⊖ (discrepancy F x y p i ⊗ inv (discrepancy F x y r i))) r) i
    add_here p r i n =
        discrepancy_add p _ r i
        ∙ ring_from F (discrepancy F x y p i ∷ discrepancy F x y r i ∷ inv (discrepancy F x y r i) ∷ [])
        (v 0 :+ (:- (v 0 :* v 2)) :* v 1) :0 (:- (v 0)) (v 1 :* v 2) :1 (mul_inv _ n) tt

    -- What holds after the points `done`. Together the top of the first ratio and the bottom of the second, which both have a last
    -- coefficient that is not zero, have two coefficients more than there are points; the bottom of the first ratio is at least t
    -- shorter than its top, or empty; the top of the second has fewer coefficients than its bottom and t together; and both
    -- discrepancies are zero at each point.
    pub record Inv (done : List I) (s : State F) : Type 0 where
      pub sum : length s.first.top + length s.second.bottom ≡ length done + 2
      pub lead_a : Lead F s.first.top
      pub lead_b : Lead F s.second.bottom
      pub low_a : length s.first.bottom ≤ length s.first.top - t
      pub low_b : suc (length s.second.top) ≤ length s.second.bottom + t
      pub sat_a : AllByRecursion (Sat s.first) done
      pub sat_b : AllByRecursion (Sat s.second) done

    pub inv_start : Inv [] (start F)
    inv_start = record {
      sum = refl;
      lead_a = one_not_zero;
      lead_b = one_not_zero;
      low_a = omega arith;
      low_b = omega arith;
      sat_a = tt;
      sat_b = tt;
    }

    -- the step in its four cases: the first discrepancy is zero, the second is, or neither and the first is raised or the second
    pub inv_step : (done : List I) (i : I) (s : State F) → Inv done s → Inv (i ∷ done) (step F x y t s i)
    inv_step done i s h =
        go (same (discrepancy F x y s.first i) 𝟘) (same (discrepancy F x y s.second i) 𝟘)
        (ltb (length s.first.top) (length s.second.bottom + t))
        (ltb→lt (length s.first.top) (length s.second.bottom + t))
        (nltb→le (length s.first.top) (length s.second.bottom + t))
      where
        -- a raised ratio has the discrepancy zero at the new point too
        raised : (p : Ratio F) → AllByRecursion (Sat p) done → AllByRecursion (Sat (raise F (x i) p)) (i ∷ done)
        raised p k = (raise_here p i, all_with (λ j m _. raise_sat (x i) p j m) done k k)

        -- the bounds on the lengths, of the first and of the second ratio, where it is raised
        raised_low_a : length (times_root F (x i) s.first.bottom) ≤ length (times_root F (x i) s.first.top) - t
        raised_low_a =
            subst (λ w. length (times_root F (x i) s.first.bottom) ≤ w - t) (sym (longer (x i) s.first.top h.lead_a))
            (times_root_le (x i) s.first.bottom (length s.first.top) t h.low_a)

        raised_low_b : suc (length (times_root F (x i) s.second.top)) ≤ length (times_root F (x i) s.second.bottom) + t
        raised_low_b =
            let top : length (times_root F (x i) s.second.top) ≤ suc (length s.second.top) =
            times_root_within F (x i) s.second.top (length s.second.top) (omega arith) in
            omega (arith, h.low_b, longer (x i) s.second.bottom h.lead_b, top)

        go : (e : Dec (discrepancy F x y s.first i ≡ 𝟘)) (f : Dec (discrepancy F x y s.second i ≡ 𝟘)) (b : Bool)
            → (T b → length s.first.top < length s.second.bottom + t)
            → (T (not b) → length s.second.bottom + t ≤ length s.first.top)
            → Inv (i ∷ done) (move F s (x i) (discrepancy F x y s.first i) (discrepancy F x y s.second i) e f b)
        go (yes e) f b lt ge = record {
          sum = omega (arith, h.sum, longer (x i) s.second.bottom h.lead_b);
          lead_a = h.lead_a;
          lead_b = lead_times_root (x i) s.second.bottom h.lead_b;
          low_a = h.low_a;
          low_b = raised_low_b;
          sat_a = (e, h.sat_a);
          sat_b = raised s.second h.sat_b;
        }
        go (no n) (yes f) b lt ge = record {
          sum = omega (arith, h.sum, longer (x i) s.first.top h.lead_a);
          lead_a = lead_times_root (x i) s.first.top h.lead_a;
          lead_b = h.lead_b;
          low_a = raised_low_a;
          low_b = h.low_b;
          sat_a = raised s.first h.sat_a;
          sat_b = (f, h.sat_b);
        }
        go (no n) (no m) true lt ge =
            let c = ⊖ (discrepancy F x y s.second i ⊗ inv (discrepancy F x y s.first i)) in
            let small : length (scale F c s.first.bottom) < length s.second.bottom =
            omega (arith, length_scale F c s.first.bottom, h.low_a, lt tt, lead_positive s.second.bottom h.lead_b) in
            let long : length (plus F s.second.bottom (scale F c s.first.bottom)) ≡ length s.second.bottom =
            length_plus_left F s.second.bottom (scale F c s.first.bottom) (omega arith) in
            let under : suc (length (plus F s.second.top (scale F c s.first.top))) ≤ length s.second.bottom + t =
            omega (
              arith,
              h.low_b,
              length_plus_le F (length s.second.bottom + t - 1) s.second.top (scale F c s.first.top)
                  (omega (arith, h.low_b)) (omega (arith, length_scale F c s.first.top, lt tt)),
            ) in
            let room : suc (length (plus F s.second.top (scale F c s.first.top)))
            ≤ length (plus F s.second.bottom (scale F c s.first.bottom)) + t =
            omega arith in
            record {
              sum = omega (arith, h.sum, long, longer (x i) s.first.top h.lead_a);
              lead_a = lead_times_root (x i) s.first.top h.lead_a;
              lead_b = lead_plus s.second.bottom (scale F c s.first.bottom) h.lead_b small;
              low_a = raised_low_a;
              low_b = room;
              sat_a = raised s.first h.sat_a;
              sat_b = (
                add_here s.second s.first i n,
                all_with (λ j p r. add_sat s.second c s.first j p r) done h.sat_b h.sat_a,
              );
            }
        go (no n) (no m) false lt ge =
            let c = ⊖ (discrepancy F x y s.first i ⊗ inv (discrepancy F x y s.second i)) in
            let small : length (scale F c s.second.top) < length s.first.top =
            omega (arith, length_scale F c s.second.top, h.low_b, ge tt) in
            let long : length (plus F s.first.top (scale F c s.second.top)) ≡ length s.first.top =
            length_plus_left F s.first.top (scale F c s.second.top) (omega arith) in
            let under : length (plus F s.first.bottom (scale F c s.second.bottom)) ≤ length s.first.top - t =
            length_plus_le F (length s.first.top - t) s.first.bottom (scale F c s.second.bottom) h.low_a
            (omega (arith, length_scale F c s.second.bottom, ge tt)) in
            let room : length (plus F s.first.bottom (scale F c s.second.bottom))
            ≤ length (plus F s.first.top (scale F c s.second.top)) - t =
            omega arith in
            record {
              sum = omega (arith, h.sum, long, longer (x i) s.second.bottom h.lead_b);
              lead_a = lead_plus s.first.top (scale F c s.second.top) h.lead_a small;
              lead_b = lead_times_root (x i) s.second.bottom h.lead_b;
              low_a = room;
              low_b = raised_low_b;
              sat_a = (
                add_here s.first s.second i m,
                all_with (λ j p r. add_sat s.first c s.second j p r) done h.sat_a h.sat_b,
              );
              sat_b = raised s.second h.sat_b;
            }

    pub inv_run : (is : List I) → Inv is (run F x y t is)
    inv_run [] = inv_start
    inv_run (i ∷ is) = inv_step is i (run F x y t is) (inv_run is)
