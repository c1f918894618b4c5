-- What an element takes in memory, so that arrays of elements are known to fit.
-- Assumes nothing.
use Rattle.std.specs.Prelude.{ℕ, ◌≤◌}
use prog.Memory.{size, align}
use Rattle.std.specs.Borrow.{RattleType}
use denote.Param.{layout}

-- at most n bytes, at an alignment that numbers have
abbrev pub Small : RattleType → ℕ → Type 0
Small R n = (size (layout R) ≤ n) × (align (layout R) ≤ 16)
