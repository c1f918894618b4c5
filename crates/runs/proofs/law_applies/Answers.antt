use Rattle.runs.proofs.Applies.{law_applies_lem}
use Rattle.runs.proofs.law_applies.Goals as goal

pub returns : goal.returns
returns c = law_applies_lem
