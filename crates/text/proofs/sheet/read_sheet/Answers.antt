use Rattle.std.proofs.Common.{leb, length, Err, sym, ap, ◌∙◌, arith}
use Rattle.std.proofs.lemmas.Bool.{cond-true, le-leb}
use Rattle.text.specs.Lines.{lines}
use Rattle.text.specs.Sheet.{sheet_keys, sheet_settled}
use Rattle.text.proofs.LinesTold.{sheet_lines_told}
use Rattle.text.proofs.sheet.read_sheet.Goals as goal

pub returns : goal.returns
returns c =
    let text = c.args.text.now in
    let ranges = rw c.in_ok-take_lines.was at c.take_lines.type_inv in
    c.settle_sheet.ensures
    ∙ sheet_lines_told c.in_ok-take_lines.field-0 (record { n = omega arith; k = omega arith; t = omega arith; d = omega arith })
    ∙ ap sheet_settled c.in_ok-take_lines.ensures
    ∙ sym (cond-true (leb (length text) 16384) (sheet_settled (lines 1 sheet_keys text)) (Err (51, 0)) (le-leb (length text) 16384 c.if-text-gt16384.false))
