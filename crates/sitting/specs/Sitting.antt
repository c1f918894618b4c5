-- The cards that lie at a sitting.
-- Assumes nothing.
use Rattle.runs.specs.Cards.{Cards}
use Rattle.sitting.specs.declared.types.Sitting.{Sitting}
use Rattle.sitting.specs.Table.{cards_on}

-- read off the table of a sitting over a field F
abbrev pub cards_on_table : {F : Type 0} → Sitting F → Cards
cards_on_table s = cards_on s.figures s.table
