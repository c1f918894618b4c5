use Rattle.std.proofs.Common.{◌≡◌, ◌-◌}
use lib.Bits.{bit_xor}
use Rattle.fields.specs.Byte.{product}
use Rattle.fields.specs.ByteLaws.{over_bits, xtime}
use Rattle.fields.proofs.byte.multiply.Given as goal

-- the sum so far and what the bits that are left add to it make up the product
abbrev pub invariant-loop-bit : goal.invariant-loop-bit
invariant-loop-bit l = bit_xor l.sum (over_bits xtime (8 - l._bit) l.power l.bits) ≡ product l.a l.b
