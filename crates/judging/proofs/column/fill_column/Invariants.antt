use Rattle.judging.proofs.Fill.{Filled}
use Rattle.judging.proofs.column.fill_column.Given as goal

abbrev pub invariant-loop-scan : goal.invariant-loop-scan
invariant-loop-scan g l = Filled l.node (g.R.Recording.meaning l.recording) l.place.index l.initial.work l.scan l.value l.work
