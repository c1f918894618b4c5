-- The laws of the doubled field over its elements, and that two elements take little memory.
-- Assumes nothing.
use Rattle.std.specs.Prelude.{◌≡◌, ℕ, ◌+◌, ◌-◌, ◌*◌, ◌/◌, ◌%◌, ◌≤◌, max}
use Rattle.std.proofs.Common.{sym, ◌∙◌, ap, ap₂, mod-lt, mul-le-mul, arith}
use Rattle.std.proofs.Math.Nat.{mod-le, max-le}
use Rattle.std.specs.Borrow.{RattleType}
use denote.Param.{layout}
use prog.Memory.{up, size, align}
use Rattle.fields.specs.declared.doubled.Twice.{Twice}
use Rattle.fields.specs.Doubled.{doubled, join}
use Rattle.fields.specs.DoubledLaws.{doubled_laws, join_below, join_low, join_high, join_parts, high_below}
use Rattle.fields.specs.Elements.{zero_below}
use Rattle.fields.specs.Laws.{Codes, FieldLaws, DoublableLaws}
use Rattle.fields.specs.Room.{Small}

abbrev pub pair : {E : Type 0} → E → E → Twice E
pair a b = record { low = a; high = b }

-- the remainder and the quotient of a code by p are the codes of the two parts
pub twice_laws : {E : Type 0} {C : Codes} {code : E → ℕ} {u v : ℕ} → FieldLaws E C code → DoublableLaws C u v
    → FieldLaws (Twice E) (doubled C u v) (λ x. join C.size (code x.low) (code x.high))
twice_laws {E} {C} {code} L D = record {
  on_codes = doubled_laws D;
  code_below = λ x. join_below p (code x.low) (code x.high) (L.code_below x.low) (L.code_below x.high);
  code_injective = λ x y e. ap₂ pair (L.code_injective x.low y.low (low x y e)) (L.code_injective x.high y.high (high x y e));
  code_onto = λ n h.
      let a = L.code_onto (n % p) (mod-lt n (zero_below L.on_codes)) in
      let b = L.code_onto (n / p) (high_below p n (zero_below L.on_codes) h) in
      (pair a.0 b.0, ap₂ (join p) a.1 b.1 ∙ join_parts p n);
}
  where
    p : ℕ
    p = C.size

    of : Twice E → ℕ
    of x = join p (code x.low) (code x.high)

    low : (x y : Twice E) → of x ≡ of y → code x.low ≡ code y.low
    low x y e =
        sym (join_low p (code x.low) (code x.high) (L.code_below x.low)) ∙ ap (λ (t : ℕ). t % p) e
        ∙ join_low p (code y.low) (code y.high) (L.code_below y.low)

    high : (x y : Twice E) → of x ≡ of y → code x.high ≡ code y.high
    high x y e =
        sym (join_high p (code x.low) (code x.high) (L.code_below x.low)) ∙ ap (λ (t : ℕ). t / p) e
        ∙ join_high p (code y.low) (code y.high) (L.code_below y.low)

-- what alignment adds
pub up_le : (k e m : ℕ) → k ≤ m → up k e ≤ e + m
up_le k e m h = omega (arith, mod-le (k - e % k) k)

-- two elements with what alignment adds
pub pair_le : (b s : ℕ) → b ≤ 16 → up (max b (max b 1)) (up b (up b 0 + s) + s) ≤ 2 * s + 48
pair_le b s h =
    let x = up b 0 + s in
    let y = up b x + s in
    omega (arith, up_le b 0 16 h, up_le b x 16 h, up_le (max b (max b 1)) y 16 (max-le h (max-le h (omega arith))))

pub square : (n s : ℕ) → 33 ≤ n → s ≤ n → 2 * s + 48 ≤ n * n
square n s h l = omega (arith, mul-le-mul {n₁ = 33} {m₁ = n} {n₂ = n} {m₂ = n} h (omega arith))

pub twice_small : (R : RattleType) (n : ℕ) → 33 ≤ n → Small R n
    → (up (max (align (layout R)) (max (align (layout R)) 1)) (up (align (layout R)) (up (align (layout R)) 0 + size (layout R)) + size (layout R)) ≤ n * n)
    × (max (align (layout R)) (max (align (layout R)) 1) ≤ 16)
twice_small R n low m =
    let a = align (layout R) in
    let s = size (layout R) in
    (omega (arith, pair_le a s m.1, square n s low m.0), max-le m.1 (max-le m.1 (omega arith)))
