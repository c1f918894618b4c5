-- The doubled field is a field, for every field that can be doubled.
-- Assumes nothing.
use Rattle.std.specs.Prelude.{◌≡◌, ℕ, suc, ◌+◌, ◌*◌, ◌/◌, ◌%◌, ◌<◌, ◌≤◌}
use Rattle.std.proofs.Math.Path.{refl, ap}
use Rattle.std.proofs.Common.{◌∙◌, ap₂, mod-eq_of_lt, div-lt_iff_lt-mul, mul-le-mul_left, mul-suc, arith}
use Rattle.std.proofs.Math.Nat.{mod-lt, div-eq_of_lt, add-mul-mod_self_left, add-mul-div_left, mod-add-div, zero-add, mul-zero}
use Rattle.algebra.specs.Doubling.{Below, Twice, twice}
use Rattle.algebra.specs.Field.{Field}
use Rattle.algebra.proofs.Doubled.{doubled_field}
use Rattle.fields.specs.Laws.{Codes, Laws, DoublableLaws}
use Rattle.fields.specs.Doubled.{join, sum2, negative2, low_product, high_product, product2, doubled}
use Rattle.fields.specs.Elements.{elements, zero_below}
use Rattle.fields.specs.ElementsLemmas.{numbers, Coding, laws_of, inverses}

-- ---- a code and its two parts

pub join_low : (p a b : ℕ) → a < p → join p a b % p ≡ a
join_low p a b h = add-mul-mod_self_left a p b ∙ mod-eq_of_lt h

pub join_high : (p a b : ℕ) → a < p → join p a b / p ≡ b
join_high p a b h =
    let pos : 0 < p = omega arith in
    add-mul-div_left a b {y = p} pos ∙ ap (λ t. t + b) (div-eq_of_lt h) ∙ zero-add b

pub join_below : (p a b : ℕ) → a < p → b < p → join p a b < p * p
join_below p a b ha hb = let k : p * suc b ≤ p * p = mul-le-mul_left p hb in omega (arith, mul-suc p b)

pub join_parts : (p n : ℕ) → join p (n % p) (n / p) ≡ n
join_parts p n = mod-add-div n p

pub high_below : (p n : ℕ) → 0 < p → n < p * p → n / p < p
high_below p n pos h = (div-lt_iff_lt-mul {k = p} {x = n} {y = p} pos).1 h

-- ---- what the operations are at a + b·y

module _ (C : Codes) (u v : ℕ) where
  at_parts : (f : ℕ → ℕ → ℕ) (a b : ℕ) → a < C.size → f (join C.size a b % C.size) (join C.size a b / C.size) ≡ f a b
  at_parts f a b h = ap₂ f (join_low C.size a b h) (join_high C.size a b h)

  at_four_parts : (f : ℕ → ℕ → ℕ → ℕ → ℕ) (a b c d : ℕ) → a < C.size → c < C.size
      → f (join C.size a b % C.size) (join C.size a b / C.size) (join C.size c d % C.size) (join C.size c d / C.size) ≡ f a b c d
  at_four_parts f a b c d h k =
      at_parts (λ a b. f a b (join C.size c d % C.size) (join C.size c d / C.size)) a b h ∙ at_parts (f a b) c d k

  pub sum2_at : (a b c d : ℕ) → a < C.size → c < C.size
      → sum2 C u v (join C.size a b) (join C.size c d) ≡ join C.size (C.sum a c) (C.sum b d)
  unfolding sum2
  sum2_at = at_four_parts (λ a b c d. join C.size (C.sum a c) (C.sum b d))

  pub negative2_at : (a b : ℕ) → a < C.size → negative2 C u v (join C.size a b) ≡ join C.size (C.negative a) (C.negative b)
  unfolding negative2
  negative2_at = at_parts (λ a b. join C.size (C.negative a) (C.negative b))

  pub product2_at : (a b c d : ℕ) → a < C.size → c < C.size
      → product2 C u v (join C.size a b) (join C.size c d) ≡ join C.size (low_product C u v a b c d) (high_product C u v a b c d)
  unfolding product2
  product2_at = at_four_parts (λ a b c d. join C.size (low_product C u v a b c d) (high_product C u v a b c d))

module _ {C : Codes} {u v : ℕ} (L : DoublableLaws C u v) where
  base : Field (Below C.size)
  base = elements (numbers L.on_codes)

  -- the pairs over the numbers below the size
  pairs : Field (Twice (Below C.size))
  unfolding base elements numbers
  pairs =
      doubled_field base (u, L.u_below) (v, L.v_below)
      (λ r e. L.no_root r.0 r.1 (ap (λ (x : Below C.size). x.0) e))

  coding : Coding pairs (doubled C u v)
  unfolding base pairs elements numbers doubled_field
  coding = record {
    code = λ x. join C.size x.low.0 x.high.0;
    below = λ x. join_below C.size x.low.0 x.high.0 x.low.1 x.high.1;
    onto = λ a h.
        (twice (a % C.size, mod-lt a (zero_below L.on_codes)) (a / C.size, high_below C.size a (zero_below L.on_codes) h), join_parts C.size a);
    zeros = zero-add (C.size * 0) ∙ mul-zero C.size;
    ones = ap (λ t. 1 + t) (mul-zero C.size);
    sums = λ x y. sum2_at C u v x.low.0 x.high.0 y.low.0 y.high.0 x.low.1 y.low.1;
    negatives = λ x. negative2_at C u v x.low.0 x.high.0 x.low.1;
    products = λ x y. product2_at C u v x.low.0 x.high.0 y.low.0 y.high.0 x.low.1 y.low.1;
  }

  pub doubled_laws : Laws (doubled C u v)
  doubled_laws =
      let low : 33 ≤ C.size = L.on_codes.at_least_33 in
      let high : C.size ≤ 65536 = L.at_most_65536 in
      let a : C.size * C.size ≤ C.size * 65536 = mul-le-mul_left C.size high in
      let b : C.size * 33 ≤ C.size * C.size = mul-le-mul_left C.size low in
      laws_of coding refl (omega arith) (omega arith)

  -- the inverse of a + b·y is its conjugate over its norm
  abbrev pub conjugate : ℕ → ℕ → ℕ
  conjugate a b = C.sum a (C.product u b)

  abbrev pub norm : ℕ → ℕ → ℕ
  norm a b = C.sum (C.product a (conjugate a b)) (C.negative (C.product v (C.product b b)))

  pub inverse2_at : (a b : ℕ) → a < C.size → b < C.size
      → join C.size (C.product (conjugate a b) (C.inverse (norm a b))) (C.product (C.negative b) (C.inverse (norm a b)))
      ≡ (doubled C u v).inverse (join C.size a b)
  unfolding base pairs coding elements numbers doubled_field
  inverse2_at a b ha hb = inverses coding refl doubled_laws (twice (a, ha) (b, hb))
