use Rattle.std.proofs.Common.{sym}
use Rattle.text.proofs.TextRead.{text_fits}
use Rattle.text.proofs.writer.write_card.Goals as goal

pub text_of-text-requires : goal.text_of-text-requires
text_of-text-requires c = text_fits c.args.field c.args.figures.now c.args.number c.args.card.now (sym c.in_ok-ask_named.ensures)
