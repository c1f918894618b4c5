-- A step of the decoder, told by the codes of its two discrepancies, is the step of the elements.
-- Assumes nothing.
use Rattle.std.proofs.Common.{◌≡◌, ℕ, ◌+◌, ◌<◌, ◌≤◌, length, sym, ap, ◌∙◌, ap₂}
use Rattle.algebra.specs.Polynomial.{eval}
use Rattle.algebra.specs.Field.{Field}
use Rattle.algebra.specs.Decoder as algebra
use Rattle.algebra.specs.Decoder.{plus_multiple, discrepancy, raise, step}
use Rattle.algebra.proofs.Moves.{step_a, step_b, step_less, step_more}
use Rattle.fields.specs.Laws.{Codes, FieldLaws}
use Rattle.fields.specs.Elements.{elements}
use Rattle.fields.specs.ElementsLemmas.{add_is, inv_is, mul_is, mul_code, neg_is, neg_code, zero_code, zero_is}
use Rattle.scheme.specs.Polynomial.{polynomial_value}
use Rattle.scheme.specs.Held.{polynomial_told, ratio, state}
use Rattle.scheme.specs.declared.held.Ratio.{Ratio}
use Rattle.scheme.specs.declared.held.State.{State}
use Rattle.scheme.specs.declared.types.Point.{Point}
use Rattle.scheme.proofs.Fitted.{value_code}

module _ {E : Type 0} {C : Codes} {code : E → ℕ} (L : FieldLaws E C code) where
  abbrev X : Field E
  X = elements L

  -- d has the code of the discrepancy of r at the point p
  abbrev pub Told : Ratio E → Point E → E → Type 0
  Told r p d =
      code d ≡ C.sum (polynomial_value C (polynomial_told code r.top) (code p.x)) (C.negative (C.product (code p.y) (polynomial_value C (polynomial_told code r.bottom) (code p.x))))

  told_is : (r : Ratio E) (p : Point E) (d : E) → Told r p d → d ≡ discrepancy X {I = Unit {0}} (λ _. p.x) (λ _. p.y) (ratio X r) tt
  told_is r p d e =
      let top = eval X r.top p.x in
      let bottom = eval X r.bottom p.x in
      add_is L top (X.neg (X.mul p.y bottom)) d
      (e ∙ ap₂ C.sum (value_code L r.top p.x)
      (ap (λ v. C.negative (C.product (code p.y) v)) (value_code L r.bottom p.x) ∙ sym (neg_code L (X.mul p.y bottom) ∙ ap C.negative (mul_code L p.y bottom))))

  -- k is -a/b
  pub quotient_is : (a b i m k : E) → code i ≡ C.inverse (code b) → code m ≡ C.product (code a) (code i) → code k ≡ C.negative (code m)
      → k ≡ X.neg (X.mul a (X.inv b))
  quotient_is a b i m k inverse product negative =
      neg_is L m k negative ∙ ap X.neg (mul_is L a i m product ∙ ap (X.mul a) (inv_is L b i inverse))

  -- a step from s at the point p, where a and b are the two discrepancies
  module _ (s : State E) (p : Point E) (t : ℕ) (a b : E) (first : Told s.first p a) (second : Told s.second p b) where
    abbrev next : algebra.State X
    next = step X {I = Unit {0}} (λ _. p.x) (λ _. p.y) t (state X s) tt

    abbrev of_first : E
    of_first = discrepancy X {I = Unit {0}} (λ _. p.x) (λ _. p.y) (ratio X s.first) tt

    abbrev of_second : E
    of_second = discrepancy X {I = Unit {0}} (λ _. p.x) (λ _. p.y) (ratio X s.second) tt

    not_first : (code a ≡ 0 → ⊥) → of_first ≡ X.zero → ⊥
    not_first n e = n (ap code (told_is s.first p a first ∙ e) ∙ zero_code L)

    not_second : (code b ≡ 0 → ⊥) → of_second ≡ X.zero → ⊥
    not_second n e = n (ap code (told_is s.second p b second ∙ e) ∙ zero_code L)

    pub first_zero : code a ≡ 0 → (r : algebra.Ratio X) → r ≡ raise X p.x (ratio X s.second) → record { first = ratio X s.first; second = r } ≡ next
    first_zero z r e =
        ap (λ (r : algebra.Ratio X). record { first = ratio X s.first; second = r }) e
        ∙ sym (step_a X p.x p.y t (state X s) (sym (told_is s.first p a first) ∙ zero_is L a z))

    pub second_zero : (code a ≡ 0 → ⊥) → code b ≡ 0 → (r : algebra.Ratio X) → r ≡ raise X p.x (ratio X s.first) → record { first = r; second = ratio X s.second } ≡ next
    second_zero n z r e =
        ap (λ (r : algebra.Ratio X). record { first = r; second = ratio X s.second }) e
        ∙ sym (step_b X p.x p.y t (state X s) (not_first n) (sym (told_is s.second p b second) ∙ zero_is L b z))

    pub first_raised : (code a ≡ 0 → ⊥) → (code b ≡ 0 → ⊥) → length s.first.top < length s.second.bottom + t
        → (k : E) → k ≡ X.neg (X.mul b (X.inv a))
        → (q r : algebra.Ratio X) → q ≡ raise X p.x (ratio X s.first) → r ≡ plus_multiple X (ratio X s.second) k (ratio X s.first)
        → record { first = q; second = r } ≡ next
    first_raised na nb l k by q r qe re =
        let factor : k ≡ X.neg (X.mul of_second (X.inv of_first)) =
        by ∙ ap₂ (λ a b. X.neg (X.mul b (X.inv a))) (told_is s.first p a first) (told_is s.second p b second) in
        ap₂ (λ (q r : algebra.Ratio X). record { first = q; second = r }) qe (re ∙ ap (λ k. plus_multiple X (ratio X s.second) k (ratio X s.first)) factor)
        ∙ sym (step_less X p.x p.y t (state X s) (not_first na) (not_second nb) l)

    pub second_raised : (code a ≡ 0 → ⊥) → (code b ≡ 0 → ⊥) → length s.second.bottom + t ≤ length s.first.top
        → (k : E) → k ≡ X.neg (X.mul a (X.inv b))
        → (q r : algebra.Ratio X) → q ≡ plus_multiple X (ratio X s.first) k (ratio X s.second) → r ≡ raise X p.x (ratio X s.second)
        → record { first = q; second = r } ≡ next
    second_raised na nb l k by q r qe re =
        let factor : k ≡ X.neg (X.mul of_first (X.inv of_second)) =
        by ∙ ap₂ (λ a b. X.neg (X.mul a (X.inv b))) (told_is s.first p a first) (told_is s.second p b second) in
        ap₂ (λ (q r : algebra.Ratio X). record { first = q; second = r }) (qe ∙ ap (λ k. plus_multiple X (ratio X s.first) k (ratio X s.second)) factor) re
        ∙ sym (step_more X p.x p.y t (state X s) (not_first na) (not_second nb) l)
