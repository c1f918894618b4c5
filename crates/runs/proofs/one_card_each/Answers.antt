use Rattle.runs.proofs.Lying.{one_card_each_lem}
use Rattle.runs.proofs.one_card_each.Goals as goal

pub returns : goal.returns
returns c = one_card_each_lem
