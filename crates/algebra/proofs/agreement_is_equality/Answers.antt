use Rattle.algebra.proofs.Theorems.{agreement_is_equality_lem}
use Rattle.algebra.proofs.agreement_is_equality.Goals as goal

pub returns : goal.returns
returns c = agreement_is_equality_lem
