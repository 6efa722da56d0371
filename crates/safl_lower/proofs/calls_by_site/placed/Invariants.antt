use Rattle.std.proofs.Common.{vec_len}
use Rattle.safl_lower.proofs.Laid.{SoFar}
use Rattle.safl_lower.proofs.calls_by_site.placed.Given as goal

abbrev pub decreases-calls : goal.decreases-calls
decreases-calls l = vec_len l.left

abbrev pub invariant-calls : goal.invariant-calls
invariant-calls l = SoFar l.fn.first l.fn.count l.initial.left.items l.left.items l.table.items
