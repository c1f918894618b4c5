use Rattle.std.proofs.Common.{◌∙◌, ⊎_elim, arith, rules}
use Rattle.std.specs.Char.{is_ascii_digit}
use Rattle.std.proofs.lemmas.Bool.Decides.{nat_tests}
use Rattle.std.proofs.lemmas.Iterator.{YieldsList-from_slice}
use Rattle.std.proofs.lemmas.Iterator.Search.{all_from_yields_List}
use borrow.Author.Tests.{tests}
use Rattle.text.proofs.Digits.{digits_alone}
use Rattle.text.proofs.numbers.is_number.Goals as goal

pub returns : goal.returns
returns c =
    let text = c.args.text.now in
    let some = c.if-is_empty.ensures in
    all_from_yields_List is_ascii_digit _ _ _ c.all.ensures.ran (YieldsList-from_slice text cc) (λ x b q k. search (rules, tests))
    ∙ digits_alone text (grind (arith, nat_tests)) (omega arith) (⊎_elim (λ one e. omega (arith, one.1)) (λ other e. absurd (other e)) c.else-text-eq48.either)
