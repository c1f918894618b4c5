use Rattle.std.proofs.Common.{length}
use Rattle.scheme.proofs.fitting.+are_distinct.Given as goal

abbrev pub decreases-are_distinct : goal.decreases-are_distinct
decreases-are_distinct g l = length l.points.now
