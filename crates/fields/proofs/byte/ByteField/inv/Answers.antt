use Rattle.fields.specs.declared.inverses.TheConstants.{BYTE}
use Rattle.fields.specs.Byte.{byte}
use Rattle.fields.specs.ByteLaws.{byte_laws}
use Rattle.fields.specs.InverseLaws.{entry, inverse_is}
use Rattle.fields.proofs.Tables.{byte_table}
use Rattle.fields.proofs.byte.ByteField.inv.Goals as goal

pub invariant_of-result : goal.invariant_of-result
invariant_of-result c = record { below = (entry byte BYTE byte_table c.args.a.code c.args.a.below).below }

pub returns : goal.returns
returns c = inverse_is byte_laws c.args.a.code _ c.args.a.below (entry byte BYTE byte_table c.args.a.code c.args.a.below)
