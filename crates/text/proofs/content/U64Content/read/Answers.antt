use Rattle.std.proofs.Common.{decimal, ap, ◌∙◌}
use Rattle.std.specs.Option.{option_map}
use Rattle.text.proofs.NumbersBack.{number_read}
use Rattle.text.proofs.content.U64Content.read.Goals as goal

pub returns : goal.returns
returns c = ap (option_map decimal) c.number.ensures ∙ number_read c.args.run.now
