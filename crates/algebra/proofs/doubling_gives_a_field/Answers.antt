use Rattle.algebra.proofs.Doubled.{doubling_gives_a_field_lem}
use Rattle.algebra.proofs.doubling_gives_a_field.Goals as goal

pub returns : goal.returns
returns c = doubling_gives_a_field_lem
