use Rattle.runs.proofs.Lying.{lying_by_accepted_calls_lem}
use Rattle.runs.proofs.lying_by_accepted_calls.Goals as goal

pub returns : goal.returns
returns c = lying_by_accepted_calls_lem
