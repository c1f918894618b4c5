-- The elements of a field of at most 256 are its codes.
-- Assumes nothing.
use Rattle.std.specs.Prelude.{◌≡◌, ℕ, suc, ◌<◌, refl}
use mathlib.Core.HLevel.{is_prop→PathP}
use Rattle.std.proofs.Math.Bridge.{le_prop}
use Rattle.fields.specs.Laws.{Codes, Laws, FieldLaws}
use Rattle.fields.specs.declared.symbol.Symbol.{Symbol}

same : (p : ℕ) (x y : Symbol p) → x.code ≡ y.code → x ≡ y
same p x y e =
    λ i. record { code = e i; below = is_prop→PathP (λ j. e j < p) (λ j. le_prop {n = suc (e j)} {m = p}) x.below y.below i }

pub symbol_laws : (C : Codes) → Laws C → FieldLaws (Symbol C.size) C (λ x. x.code)
symbol_laws C L = record {
  on_codes = L;
  code_below = λ x. x.below;
  code_injective = same C.size;
  code_onto = λ n h. (record { code = n; below = h }, refl);
}
