use Rattle.std.proofs.Common.{sym, refl}
use Rattle.tableau.specs.Stepping.{lists, standing, progress_told, refused}
use Rattle.tableau.proofs.Stepped.{steps_are}
use Rattle.tableau.proofs.stepping.step.Goals as goal

pub returns-in-Err-clause-steps : goal.returns-in-Err-clause-steps
returns-in-Err-clause-steps c = refused c.in-Err.fault (sym c.in-Err.ensures) refl refl

pub returns-clause-steps : goal.returns-clause-steps
returns-clause-steps c =
    steps_are (standing c.args.translation) (lists c.args.sheet.now c.args.states.now c.args.arcs.now c.args.pending.now) c.args.allowance c.advance-stopped.result c.advance-stopped.new.states
    c.advance-stopped.new.arcs c.advance-stopped.new.pending c.advance-stopped.ensures c.in_default.ensures (progress_told c.progress.result) c.progress.ensures
