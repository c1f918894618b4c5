use Rattle.algebra.proofs.Theorems.{one_interpolates_lem}
use Rattle.algebra.proofs.one_interpolates.Goals as goal

pub returns : goal.returns
returns c = one_interpolates_lem
