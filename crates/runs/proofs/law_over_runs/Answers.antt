use Rattle.runs.proofs.Lawful.{law_over_runs_lem}
use Rattle.runs.proofs.law_over_runs.Goals as goal

pub returns : goal.returns
returns c = law_over_runs_lem
