-- The pairs a + b·y with y·y = u·y + v are a field where r·r = u·r + v has no root.
-- Assumes nothing.
use Rattle.std.proofs.Common.{◌≡◌, [], ◌∷◌, sym, refl, ap, ◌∙◌, ap₂}
use Rattle.algebra.specs.Field.{Field}
use Rattle.algebra.specs.Doubling.{Operations, operations, Twice, twice, norm, doubled, NoRoot, DoublingGivesAField}
use Rattle.algebra.proofs.Rules.{mul_zero, zero_mul, zero_factor}
use Rattle.algebra.proofs.Normal.{Expr, v, :0, :1, ◌:+◌, ◌:-◌, ◌:*◌, :-◌, value, SameForm, ring, ring_from}

-- expressions have operations too, with no laws: an operation of the doubled field at expressions is its own expression
abbrev expressions : Operations Expr
expressions = record { zero = :0; one = :1; add = ◌:+◌; neg = :-◌; mul = ◌:*◌; inv = λ e. e }

abbrev E : Operations (Twice Expr)
E = doubled expressions (v 6) (v 7)

abbrev X : Twice Expr
X = twice (v 0) (v 1)

abbrev Y : Twice Expr
Y = twice (v 2) (v 3)

abbrev Z : Twice Expr
Z = twice (v 4) (v 5)

module _ {K : Type 0} (F : Field K) (u w : K) (no_root : NoRoot (operations F) u w) where
  open F use {zero as 𝟘, one as 𝟙, add as ◌⊕◌, mul as ◌⊗◌, neg as ⊖◌, inv}

  infixl 65 ◌⊕◌
  infixl 70 ◌⊗◌
  infix 80 ⊖◌
  abbrev D : Operations (Twice K)
  D = doubled (operations F) u w

  -- an identity of the doubled ring, part by part
  pub ring2 : (x y z : Twice K) (a b : Twice Expr)
      → let ρ = x.low ∷ x.high ∷ y.low ∷ y.high ∷ z.low ∷ z.high ∷ u ∷ w ∷ [] in
      SameForm a.low b.low → SameForm a.high b.high
      → twice (value F ρ a.low) (value F ρ a.high) ≡ twice (value F ρ b.low) (value F ρ b.high)
  ring2 x y z a b p q =
      let ρ = x.low ∷ x.high ∷ y.low ∷ y.high ∷ z.low ∷ z.high ∷ u ∷ w ∷ [] in
      ap₂ twice (ring F ρ a.low b.low p) (ring F ρ a.high b.high q)

  -- if b is zero the norm of a + b·y is a·a, and else -a/b would be a root
  pub norm_not_zero : (x : Twice K) → (x ≡ D.zero → ⊥) → norm (operations F) u w x ≡ 𝟘 → ⊥
  norm_not_zero x n e = by (F.same x.high 𝟘)
    where
      a : K
      a = x.low

      b : K
      b = x.high

      by : Dec (b ≡ 𝟘) → ⊥
      by (yes h) =
          let flat : a ⊗ a ≡ 𝟘 =
          ring F (a ∷ u ∷ w ∷ []) (v 0 :* v 0) (v 0 :* (v 0 :+ v 1 :* :0) :- v 2 :* (:0 :* :0)) tt
          ∙ ap (λ t. a ⊗ (a ⊕ u ⊗ t) ⊕ ⊖ (w ⊗ (t ⊗ t))) (sym h) ∙ e in
          n (ap₂ twice (by_square (F.same a 𝟘) flat) h)
        where
          by_square : Dec (a ≡ 𝟘) → a ⊗ a ≡ 𝟘 → a ≡ 𝟘
          by_square (yes z) f = z
          by_square (no m) f = zero_factor F a a f m
      by (no h) =
          let i = inv b in
          let r = ⊖ (a ⊗ i) in
          let unit : b ⊗ i ≡ 𝟙 = F.mul_inv b h in
          -- the norm over b·b is r·r - u·r - v
          let spread : norm (operations F) u w x ⊗ (i ⊗ i) ≡ r ⊗ r ⊕ ⊖ (u ⊗ r ⊗ (b ⊗ i)) ⊕ ⊖ (w ⊗ ((b ⊗ i) ⊗ (b ⊗ i))) =
          ring F (a ∷ b ∷ u ∷ w ∷ i ∷ [])
          ((v 0 :* (v 0 :+ v 2 :* v 1) :- v 3 :* (v 1 :* v 1)) :* (v 4 :* v 4))
          (:- (v 0 :* v 4) :* :- (v 0 :* v 4) :- v 2 :* :- (v 0 :* v 4) :* (v 1 :* v 4) :- v 3 :* ((v 1 :* v 4) :* (v 1 :* v 4))) tt in
          let none : r ⊗ r ⊕ ⊖ (u ⊗ r ⊗ 𝟙) ⊕ ⊖ (w ⊗ (𝟙 ⊗ 𝟙)) ≡ 𝟘 =
          ap (λ t. r ⊗ r ⊕ ⊖ (u ⊗ r ⊗ t) ⊕ ⊖ (w ⊗ (t ⊗ t))) (sym unit) ∙ sym spread ∙ ap (λ t. t ⊗ (i ⊗ i)) e ∙ zero_mul F (i ⊗ i) in
          no_root r
          (ring_from F (r ∷ u ∷ w ∷ []) (v 0 :* v 0) (v 1 :* v 0 :+ v 2) :1
          (v 0 :* v 0 :- v 1 :* v 0 :* :1 :- v 2 :* (:1 :* :1)) :0 none tt)

  pub twice_same : (x y : Twice K) → Dec (x.low ≡ y.low) → Dec (x.high ≡ y.high) → Dec (x ≡ y)
  twice_same x y (yes p) (yes q) = yes (ap₂ twice p q)
  twice_same x y (no n) q = no (λ e. n (ap (λ (t : Twice K). t.low) e))
  twice_same x y (yes p) (no n) = no (λ e. n (ap (λ (t : Twice K). t.high) e))

  unfoldable pub doubled_field : Field (Twice K)
  doubled_field = record {
    zero = D.zero;
    one = D.one;
    add = D.add;
    neg = D.neg;
    mul = D.mul;
    inv = D.inv;
    add_assoc = λ x y z. ring2 x y z (E.add (E.add X Y) Z) (E.add X (E.add Y Z)) tt tt;
    add_comm = λ x y. ring2 x y x (E.add X Y) (E.add Y X) tt tt;
    add_zero = λ x. ring2 x x x (E.add X E.zero) X tt tt;
    add_neg = λ x. ring2 x x x (E.add X (E.neg X)) E.zero tt tt;
    mul_assoc = λ x y z. ring2 x y z (E.mul (E.mul X Y) Z) (E.mul X (E.mul Y Z)) tt tt;
    mul_comm = λ x y. ring2 x y x (E.mul X Y) (E.mul Y X) tt tt;
    mul_one = λ x. ring2 x x x (E.mul X E.one) X tt tt;
    mul_add = λ x y z. ring2 x y z (E.mul X (E.add Y Z)) (E.add (E.mul X Y) (E.mul X Z)) tt tt;
    mul_inv = λ x n. mul_inverse x n;
    inv_zero = inverse_of_zero;
    one_not_zero = λ e. F.one_not_zero (ap (λ (t : Twice K). t.low) e);
    same = λ x y. twice_same x y (F.same x.low y.low) (F.same x.high y.high);
  }
    where
      mul_inverse : (x : Twice K) → (x ≡ D.zero → ⊥) → D.mul x (D.inv x) ≡ D.one
      mul_inverse x n =
          let i = inv (norm (operations F) u w x) in
          let ρ = x.low ∷ x.high ∷ u ∷ w ∷ i ∷ [] in
          ap₂ twice
          (ring F ρ (v 0 :* ((v 0 :+ v 2 :* v 1) :* v 4) :+ v 3 :* (v 1 :* (:- v 1 :* v 4)))
          ((v 0 :* (v 0 :+ v 2 :* v 1) :- v 3 :* (v 1 :* v 1)) :* v 4) tt
          ∙ F.mul_inv (norm (operations F) u w x) (norm_not_zero x n))
          (ring F ρ
          (v 0 :* (:- v 1 :* v 4) :+ v 1 :* ((v 0 :+ v 2 :* v 1) :* v 4) :+ v 2 :* (v 1 :* (:- v 1 :* v 4))) :0 tt)

      inverse_of_zero : D.inv D.zero ≡ D.zero
      inverse_of_zero =
          let none : inv (norm (operations F) u w D.zero) ≡ 𝟘 =
          ap inv (ring F (u ∷ w ∷ []) (:0 :* (:0 :+ v 0 :* :0) :- v 1 :* (:0 :* :0)) :0 tt) ∙ F.inv_zero in
          ap₂ twice (ap (λ t. (𝟘 ⊕ u ⊗ 𝟘) ⊗ t) none ∙ mul_zero F (𝟘 ⊕ u ⊗ 𝟘)) (ap (λ t. ⊖ 𝟘 ⊗ t) none ∙ mul_zero F (⊖ 𝟘))

pub doubling_gives_a_field_lem : DoublingGivesAField
unfolding doubled_field
doubling_gives_a_field_lem q F u w h = (doubled_field F u w h, refl)
