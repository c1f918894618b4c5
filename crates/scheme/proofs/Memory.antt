-- Held polynomials, ratios and states fit in memory, since an element of a field is small.
-- Assumes nothing.
use Rattle.std.proofs.Common.{ℕ, ◌+◌, ◌*◌, ◌^◌, ◌<◌, ◌≤◌, max, arith}
use native.Mathlib.Nat.{max-le}
use prog.Memory.{size, align, up}
use denote.RattleType.{RattleType}
use denote.Param.{layout}
use Rattle.fields.specs.Laws.{Codes, Laws}
use Rattle.fields.specs.Room.{Small}
use Rattle.fields.specs.DoubledFieldLemmas.{up_le, pair_le}
use Rattle.scheme.specs.contracts.held.Polynomial.{the_row as polynomial-row}
use Rattle.scheme.specs.contracts.held.Ratio.{the_row as ratio-row}
use Rattle.scheme.specs.contracts.held.State.{the_row as state-row}

polynomial_le : (a s : ℕ) → a ≤ 16 → up (max a 8) (up 8 (up a 0 + 64 * s) + 8) ≤ 64 * s + 56
polynomial_le a s h =
    let x = up a 0 + 64 * s in
    let y = up 8 x + 8 in
    omega (arith, up_le a 0 16 h, up_le 8 x 16 (omega arith), up_le (max a 8) y 16 (max-le h (omega arith)))

pub record Roomy (E : RattleType) : Type 0 where
  pub array : 64 * size (layout E) < 2 ^ 63
  pub polynomial : size (layout (polynomial-row E)) < 2 ^ 63
  pub ratio : size (layout (ratio-row E)) < 2 ^ 63
  pub state : size (layout (state-row E)) < 2 ^ 63

pub roomy : (E : RattleType) (C : Codes) → Laws C → Small E C.size → Roomy E
roomy E C L m =
    let a = align (layout E) in
    let s = size (layout E) in
    let ha = m.1 in
    let hs = m.0 in
    let high = L.at_most_2^32 in
    let p = up (max a 8) (up 8 (up a 0 + 64 * s) + 8) in
    let b = max a 8 in
    let q = up (max b (max b 1)) (up b (up b 0 + p) + p) in
    let d = max b (max b 1) in
    let hb : b ≤ 16 = max-le ha (omega arith) in
    let hd : d ≤ 16 = max-le hb (max-le hb (omega arith)) in
    record {
      array = omega arith;
      polynomial = omega (arith, polynomial_le a s ha);
      ratio = omega (arith, polynomial_le a s ha, pair_le b p hb);
      state = omega (arith, polynomial_le a s ha, pair_le b p hb, pair_le d q hd);
    }
