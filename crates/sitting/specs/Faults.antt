-- The refusals of the calls on cards, by their numbers.
-- Assumes nothing.
use Rattle.std.specs.Prelude.{ℕ, Option, Result}
use Rattle.std.specs.Option.{option_map}
use Rattle.std.specs.Result.{result_err, result_map_both}
use Rattle.sitting.specs.declared.types.CardFault.{CardFault}
use Rattle.sitting.specs.declared.types.CardFault.TheVariants.{Number, Pairs, Code}
use Rattle.sitting.specs.declared.types.PresentFault.{PresentFault}
use Rattle.sitting.specs.declared.types.PresentFault.TheVariants.{Card, AlreadyLies}
use Rattle.sitting.specs.declared.types.WithdrawFault.{WithdrawFault}
use Rattle.sitting.specs.declared.types.WithdrawFault.TheVariants as withdraw

abbrev pub card_number : CardFault → ℕ
card_number Number = 41
card_number Pairs = 42
card_number Code = 43

abbrev pub present_number : PresentFault → ℕ
present_number (Card e) = card_number e
present_number AlreadyLies = 44

abbrev pub withdraw_number : WithdrawFault → ℕ
withdraw_number withdraw.Number = 41
withdraw_number withdraw.NotLying = 45

-- the number of the refusal that an answer tells, if any
abbrev pub card_told : Result (Unit {0}) CardFault → Option ℕ
card_told answer = option_map card_number (result_err answer)

-- how many cards lie, or the number of the refusal, that an answer tells
abbrev pub present_told : Result ℕ PresentFault → Result ℕ ℕ
present_told = result_map_both (λ count. count) present_number

abbrev pub withdraw_told : Result ℕ WithdrawFault → Result ℕ ℕ
withdraw_told = result_map_both (λ count. count) withdraw_number
