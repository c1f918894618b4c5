use Rattle.std.proofs.Common.{◌≡◌, ◌^◌, ◌<◌, take}
use Rattle.text.specs.Numbers.{digits_value}
use Rattle.text.proofs.numbers.value_of.Given as goal

-- the number that the digits so far write
abbrev pub invariant-loop-b : goal.invariant-loop-b
invariant-loop-b l = (l.n ≡ digits_value (take l.b-index l.digits)) × (l.n < 10 ^ l.b-index)
