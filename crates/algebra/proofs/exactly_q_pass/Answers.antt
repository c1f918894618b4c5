use Rattle.algebra.proofs.Theorems.{exactly_q_pass_lem}
use Rattle.algebra.proofs.exactly_q_pass.Goals as goal

pub returns : goal.returns
returns c = exactly_q_pass_lem
