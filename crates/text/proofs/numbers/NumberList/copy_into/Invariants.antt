use Rattle.std.proofs.Common.{◌≡◌, length, take}
use Rattle.text.specs.Numbers.{numbers_in}
use Rattle.text.proofs.numbers.NumberList.copy_into.Given as goal

-- the numbers so far
abbrev pub invariant-loop-i : goal.invariant-loop-i
invariant-loop-i l = take (length l.yielded) l.numbers ≡ take (length l.yielded) (numbers_in l.self.text.now)
