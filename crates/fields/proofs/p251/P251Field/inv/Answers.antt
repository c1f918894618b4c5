use Rattle.fields.specs.declared.inverses.TheConstants.{P251}
use Rattle.fields.specs.P251.{p251}
use Rattle.fields.specs.P251Laws.{p251_laws}
use Rattle.fields.specs.InverseLaws.{entry, inverse_is}
use Rattle.fields.proofs.Tables.{p251_table}
use Rattle.fields.proofs.p251.P251Field.inv.Goals as goal

pub invariant_of-result : goal.invariant_of-result
invariant_of-result c = record { below = (entry p251 P251 p251_table c.args.a.code c.args.a.below).below }

pub returns : goal.returns
returns c = inverse_is p251_laws c.args.a.code _ c.args.a.below (entry p251 P251 p251_table c.args.a.code c.args.a.below)
