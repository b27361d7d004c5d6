use Rattle.std.proofs.Common.{◌≡◌, ◌*◌, length, drop}
use Rattle.judging.specs.Tabled.{Tabled}
use Rattle.judging.proofs.judge.fill_table.Given as goal

abbrev pub invariant-loop-index : goal.invariant-loop-index
invariant-loop-index g l =
    let lasso = g.R.Recording.meaning l.recording in
    Tabled l.book lasso l.index l.work
    × (drop (4 * length lasso.words) l.work ≡ drop (4 * length lasso.words) l.initial.work)
