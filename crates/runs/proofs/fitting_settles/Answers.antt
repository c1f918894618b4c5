use Rattle.runs.proofs.Openings.{fitting_settles_lem}
use Rattle.runs.proofs.fitting_settles.Goals as goal

pub returns : goal.returns
returns c = fitting_settles_lem
