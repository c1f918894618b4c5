-- The figures and the pairs of the worked examples.
-- Assumes nothing.
use Rattle.std.specs.Prelude.{ℕ}
use Rattle.std.proofs.Common.{lit≤}
use Rattle.scheme.specs.declared.types.Figures.{Figures}
use Rattle.scheme.specs.declared.types.Pair.{Pair}

-- five participants, threshold four, one altered share borne, one symbol
abbrev pub five : Figures
five = record {
  n = 5;
  k = 4;
  t = 1;
  d = 1;
  participants = (lit≤ tt, lit≤ tt);
  threshold = (lit≤ tt, lit≤ tt);
  altered = lit≤ tt;
  symbols = (lit≤ tt, lit≤ tt);
}

abbrev pub pair : ℕ → ℕ → Pair
pair value tag = record { value = value; tag = tag }
