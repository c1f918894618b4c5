-- The field `p251`, on codes: the whole numbers modulo 251.
-- Assumes nothing.
use Rattle.std.specs.Prelude.{ℕ, ◌+◌, ◌-◌, ◌*◌, ◌%◌}
use Rattle.fields.specs.Laws.{Codes}
use Rattle.fields.specs.Inverse.{with_inverse}

abbrev pub sum : ℕ → ℕ → ℕ
sum a b = (a + b) % 251

abbrev pub negative : ℕ → ℕ
negative a = (251 - a) % 251

abbrev pub product : ℕ → ℕ → ℕ
product a b = a * b % 251

abbrev pub p251 : Codes
p251 = with_inverse 251 sum negative product
