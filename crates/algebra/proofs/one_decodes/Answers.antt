use Rattle.algebra.proofs.Theorems.{one_decodes_lem}
use Rattle.algebra.proofs.one_decodes.Goals as goal

pub returns : goal.returns
returns c = one_decodes_lem
