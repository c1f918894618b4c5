use Rattle.runs.proofs.Lying.{lying_until_withdrawn_lem}
use Rattle.runs.proofs.lying_until_withdrawn.Goals as goal

pub returns : goal.returns
returns c = lying_until_withdrawn_lem
