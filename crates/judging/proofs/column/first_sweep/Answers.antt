use Rattle.std.proofs.Common.{◌≡◌, arith}
use Rattle.judging.proofs.Back.{sweep_back, sweep_ends}
use Rattle.judging.proofs.column.first_sweep.Goals as goal

pub loop-scan-preserved : goal.loop-scan-preserved
loop-scan-preserved g c =
    let l = g.R.Recording.meaning c.args.recording.now in
    let inside = (g.R.Recording.sound c.args.recording.now).inside in (
      omega arith,
      sweep_back c.args.node l c.args.work.now inside c.loop-scan.scan c.turn_at.result c.loop-scan.value c.before-value.result (omega arith) (omega arith)
          (record { holds = c.turn_at.ensures.hold; passes = c.turn_at.ensures.pass }) c.before-value.ensures c.loop-scan.invariant.1,
    )

pub returns : goal.returns
returns g c =
    let l = g.R.Recording.meaning c.args.recording.now in
    let inside = (g.R.Recording.sound c.args.recording.now).inside in
    let e : c.loop-scan.scan ≡ l.start = omega arith in
    sweep_ends c.args.node l c.args.work.now inside c.loop-scan.value c.loop-scan.scan e c.loop-scan.invariant.1
