use Rattle.std.proofs.Common.{◌≤◌, length, Decides}
use Rattle.semantics.proofs.Sweeps.{Reached}
use Rattle.judging.specs.Columns.{hold_on, pass_on}
use Rattle.judging.specs.Turns.{lasts_of}
use Rattle.judging.proofs.column.first_sweep.Given as goal

abbrev pub invariant-loop-scan : goal.invariant-loop-scan
invariant-loop-scan g l =
    let lasso = g.R.Recording.meaning l.recording in
    (lasso.start ≤ l.scan)
    × Decides l.value (Reached (hold_on l.node lasso l.work) (pass_on l.node lasso l.work) (lasts_of l.node) (length lasso.words) l.scan)
