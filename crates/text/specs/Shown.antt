-- What the answers of reader and writer tell.
-- Assumes nothing.
use Rattle.std.specs.Prelude.{ℕ, take, Result}
use Rattle.std.specs.Result.{result_map_both}
use Rattle.text.specs.Card.{Reading}
use Rattle.text.specs.Faults.{fault_told, write_number}
use Rattle.text.specs.declared.types.CardRead.{CardRead}
use Rattle.text.specs.declared.types.TextFault.{TextFault}
use Rattle.text.specs.declared.types.WriteFault.{WriteFault}

-- the card that was read: the first d of the 64 pairs
abbrev pub shown : CardRead → Reading
shown c = record {
  field = c.field;
  figures = (c.figures.n, c.figures.k, c.figures.t, c.figures.d);
  number = c.number;
  card = take c.figures.d c.pairs;
}

abbrev pub read_told : Result CardRead TextFault → Result Reading (ℕ × ℕ)
read_told = result_map_both shown fault_told

abbrev pub write_told : Result ℕ WriteFault → Result ℕ ℕ
write_told = result_map_both (λ length. length) write_number
