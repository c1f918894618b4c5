use Rattle.std.proofs.Common.{leb, length, Err, sym, ap, ◌∙◌, arith}
use Rattle.std.proofs.lemmas.Bool.{cond-true, le-leb}
use Rattle.text.specs.Card.{card_keys, settled}
use Rattle.text.specs.Lines.{lines}
use Rattle.text.proofs.LinesTold.{card_told}
use Rattle.text.proofs.types.CardReader.read.Goals as goal

pub returns : goal.returns
returns c =
    let text = c.args.self.now.text.now in
    let ranges = rw c.in_ok-lines.was at c.lines.type_inv in
    c.settle.ensures
    ∙ card_told c.in_ok-lines.field-0 (record { n = omega arith; k = omega arith; t = omega arith; d = omega arith }) (omega arith)
    ∙ ap settled c.in_ok-lines.ensures
    ∙ sym (cond-true (leb (length text) 1024) (settled (lines 1 card_keys text)) (Err (51, 0)) (le-leb (length text) 1024 c.if-self-gt1024.false))
