use Rattle.std.proofs.Common.{eqb, count_by, ap, arith}
use Rattle.std.proofs.lemmas.List.{length-map, take_all}
use Rattle.std.proofs.lemmas.List.Splits.{length-slice_split}
use Rattle.std.proofs.lemmas.List.Sums.{count_by_more_yes, count_by_more_no}
use Rattle.std.proofs.lemmas.Bool.{eq-eqb, ne_eqb}
use Rattle.text.specs.Numbers.{digits_value, pieces}
use Rattle.text.proofs.numbers.NumberList.count.Goals as goal
use Rattle.text.proofs.numbers.NumberList.count.Goals.{then-b-eq44, else-b-eq44}

pub loop-b-preserved : goal.loop-b-preserved
loop-b-preserved c =
    let text = c.args.self.now.text.now in
    let i = c.loop-b.b-index in
    let h = c.loop-b-test.true in
    elim c.if-b-eq44.branch [
      | then-b-eq44 w ↦ let m = count_by_more_yes (λ b. eqb b 44) text i 0 h (eq-eqb _ _ w.if-b-eq44.true) in (omega (arith, w.count-is), omega (arith, w.count-is))
      | else-b-eq44 w ↦ let m = count_by_more_no (λ b. eqb b 44) text i 0 h (ne_eqb _ _ w.if-b-eq44.false) in (omega (arith, w.count-is), omega (arith, w.count-is))
    ]

pub returns : goal.returns
returns c =
    let text = c.args.self.now.text.now in
    let all = take_all c.loop-b.b-index text c.loop-b-test.false in
    omega (arith, c.loop-b.invariant.0, ap (count_by (λ b. eqb b 44)) all, length-map (pieces text) digits_value, length-slice_split (λ b. eqb b 44) text)
