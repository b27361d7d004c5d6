use Rattle.std.proofs.Common.{◌-◌, sym, subst, arith}
use Rattle.judging.proofs.Fill.{Filled, Swept, swept, told_same, told_other}
use Rattle.judging.proofs.column.fill_column.Goals as goal
use Rattle.judging.proofs.column.fill_column.Goals.{After-before-value}

-- what the value before the scan says of the list
one_back : (g : _) (c : After-before-value g) → Swept c.args.node (g.R.Recording.meaning c.args.recording.now) c.args.place.index c.args.work.now (c.loop-scan.scan - 1) c.before-value.result c.loop-scan.work
one_back g c =
    swept c.args.node (g.R.Recording.meaning c.args.recording.now) (g.R.Recording.sound c.args.recording.now).inside c.args.place.index c.requires.few c.requires.lower c.args.work.now c.requires.enough
    c.loop-scan.scan c.loop-scan.value c.before-value.result c.loop-scan.work c.turn_at.result c.loop-scan.invariant (omega arith) (omega arith)
    (record { holds = c.turn_at.ensures.hold; passes = c.turn_at.ensures.pass }) c.before-value.ensures

pub loop-scan-preserved : goal.loop-scan-preserved
loop-scan-preserved g c =
    (one_back g (goal.at.loop-scan-preserved g c).After-before-value).0 (told_same c.before-value.result c.denies-denied.result _ c.if-value-denied.false c.denies-denied.ensures)

pub loop-scan-preserved-then-value-denied : goal.loop-scan-preserved-then-value-denied
loop-scan-preserved-then-value-denied g c =
    let noted = (one_back g (goal.at.loop-scan-preserved-then-value-denied g c).After-before-value).1 (told_other c.before-value.result c.denies-denied.result _ c.if-value-denied.true c.denies-denied.ensures) in
    subst (Filled c.args.node (g.R.Recording.meaning c.args.recording.now) c.args.place.index c.args.work.now _ c.before-value.result) (sym c.note.ensures) noted
