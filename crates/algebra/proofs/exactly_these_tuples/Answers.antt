use Rattle.algebra.proofs.Theorems.{exactly_these_tuples_lem}
use Rattle.algebra.proofs.exactly_these_tuples.Goals as goal

pub returns : goal.returns
returns c = exactly_these_tuples_lem
