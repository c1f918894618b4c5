-- The rule of the two tables of inverses: the prover computes the test of every entry.
-- Assumes nothing.
use Rattle.fields.specs.declared.inverses.TheConstants.{BYTE, P251}
use Rattle.fields.specs.Byte.{byte, product}
use Rattle.fields.specs.P251.{p251}
use Rattle.fields.specs.Inverse.{InverseTable}
use Rattle.fields.specs.InverseLaws.{table_by_test}
use Rattle.fields.specs.Tests.{all_below}

pub byte_table : InverseTable byte BYTE
unfolding all_below product
byte_table = table_by_test byte BYTE tt

pub p251_table : InverseTable p251 P251
unfolding all_below
p251_table = table_by_test p251 P251 tt
