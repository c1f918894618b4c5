use Rattle.runs.proofs.Openings.{dealt_cards_open_lem}
use Rattle.runs.proofs.dealt_cards_open.Goals as goal

pub returns : goal.returns
returns c = dealt_cards_open_lem
