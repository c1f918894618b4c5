use Rattle.fields.proofs.Tables.{byte_table, p251_table}
use Rattle.fields.proofs.inverses.tables_hold_inverses.Goals as goal

pub returns : goal.returns
returns c = record { byte = byte_table; p251 = p251_table }
