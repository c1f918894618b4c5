-- The refusals of texts: number and line; and those of the writer.
-- Assumes nothing.
use Rattle.std.specs.Prelude.{ℕ, Option, Result}
use Rattle.std.specs.Option.{option_map}
use Rattle.std.specs.Result.{result_err}
use Rattle.sitting.specs.Faults.{card_number}
use Rattle.text.specs.declared.types.TextFault.{TextFault}
use Rattle.text.specs.declared.types.TextFault.TheVariants.{TooLong, Key, Content, LineEnd, Follows, Figures, Number, Count, Code}
use Rattle.text.specs.declared.types.WriteFault.{WriteFault}
use Rattle.text.specs.declared.types.WriteFault.TheVariants.{Card, Buffer}

-- number and line
abbrev pub fault_told : TextFault → ℕ × ℕ
fault_told TooLong = (51, 0)
fault_told (Key line) = (52, line)
fault_told (Content line) = (53, line)
fault_told (LineEnd line) = (54, line)
fault_told Follows = (55, 9)
fault_told Figures = (56, 5)
fault_told Number = (57, 6)
fault_told (Count line) = (58, line)
fault_told (Code line) = (59, line)

-- the number and line of the refusal that an answer tells, if any
abbrev pub refusal_told : Result (Unit {0}) TextFault → Option (ℕ × ℕ)
refusal_told answer = option_map fault_told (result_err answer)

abbrev pub write_number : WriteFault → ℕ
write_number (Card e) = card_number e
write_number Buffer = 50
