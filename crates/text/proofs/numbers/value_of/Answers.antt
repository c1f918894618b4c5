use Rattle.std.proofs.Common.{◌+◌, ◌-◌, ◌*◌, sym, ap, ◌∙◌, arith}
use Rattle.std.proofs.lemmas.List.{take_all}
use Rattle.std.proofs.lemmas.List.Sums.{fold_more}
use Rattle.text.specs.Numbers.{digits_value}
use Rattle.text.proofs.Digits.{digit_in, ten_more}
use Rattle.text.proofs.numbers.value_of.Goals as goal

pub overflow_sub-b : goal.overflow_sub-b
overflow_sub-b c = omega (arith, digit_in c.args.digits.now c.loop-b.b-index c.requires c.loop-b-test.true)

pub loop-b-preserved : goal.loop-b-preserved
loop-b-preserved c =
    let text = c.args.digits.now in
    let i = c.loop-b.b-index in
    let h = c.loop-b-test.true in
    let more = fold_more (λ n b. n * 10 + (b - 48)) 0 text i 0 h in
    let digit = digit_in text i c.requires h in (
      (λ k. c.loop-b.invariant.0 k * 10 + c.from.ensures k) ∙ sym more,
      ten_more c.loop-b.n c.from.result i c.loop-b.invariant.1 (omega (arith, digit.1)),
    )

pub returns : goal.returns
returns c = c.loop-b.invariant.0 ∙ ap digits_value (take_all c.loop-b.b-index c.args.digits.now c.loop-b-test.false)
