use Rattle.std.proofs.Common.{refl}
use Rattle.fields.specs.Byte.{product}
use Rattle.fields.specs.Doubled.{product2, sum2}
use Rattle.examples.proofs.worked_examples.Goals as goal

-- each row computes
pub returns : goal.returns
unfolding product product2 sum2
returns c = (refl, (refl, (refl, (refl, (refl, (refl, (refl, tt)))))))
