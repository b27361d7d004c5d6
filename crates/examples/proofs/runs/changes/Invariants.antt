use Rattle.examples.proofs.Changing.{Sofar}
use Rattle.std.proofs.Common.{vec_items}
use Rattle.examples.proofs.runs.changes.Given as goal

abbrev pub invariant-loop-scan : goal.invariant-loop-scan
invariant-loop-scan l = Sofar l.words (vec_items l.edges) l.last l.scan
