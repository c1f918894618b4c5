-- Worked examples, told by the same definitions that the contracts of the calls use.
-- Assumes nothing.
use Rattle.std.specs.Prelude.{◌≡◌, ℕ, List, [], ◌∷◌, replicate, Ok, Err, Result}
use Rattle.fields.specs.Laws.{Codes}
use Rattle.fields.specs.Byte.{byte}
use Rattle.fields.specs.P251.{p251}
use Rattle.fields.specs.Doubled.{doubled}
use Rattle.scheme.specs.Figures.{figures_answer}
use Rattle.scheme.specs.Dealing.{dealing}
use Rattle.scheme.specs.Worked.{five, pair}
use Rattle.scheme.specs.declared.types.Figures.{Figures}
use Rattle.scheme.specs.declared.types.Pair.{Pair}

pub data Example : Type 0 where
  -- in this field, on codes, a·b = c
  product : (C : Codes) (a b c : ℕ) → Example
  -- what the call `figures` tells of n, k, t and d
  figures : (n k t d : ℕ) → Result (ℕ × ℕ × ℕ × ℕ) ℕ → Example
  -- what `deal` over p251 tells, and what its buffer holds then: figures, key, value coefficients, tag coefficients, buffer
  deal : Figures → (key values tags : List ℕ) (buffer : List Pair) → Result ℕ ℕ → List Pair → Example

abbrev pub Holds : Example → Type 0
Holds (product C a b c) = C.product a b ≡ c
Holds (figures n k t d told) = figures_answer n k t d ≡ told
Holds (deal f key values tags buffer told shares) = dealing p251 0 250 f key values tags buffer ≡ (told, shares)

abbrev pub examples : List Example
examples =
    product p251 250 250 1
    ∷ product byte 0x57 0x83 0xC1
    ∷ product (doubled p251 0 250) 251 251 250
    ∷ product (doubled byte 1 0x20) 256 256 288
    ∷ figures 5 4 1 1 (Ok (5, 4, 1, 1))
    ∷ figures 5 3 1 1 (Err 13)
    ∷ deal five (7 ∷ []) (1 ∷ 0 ∷ 2 ∷ []) (5 ∷ 3 ∷ []) (replicate 5 (pair 0 0)) (Ok 5)
    (pair 10 788 ∷ pair 25 1586 ∷ pair 64 2456 ∷ pair 139 3183 ∷ pair 11 3803 ∷ [])
    ∷ []
