use Rattle.tableau.proofs.Turns.{stuck, went}
use Rattle.tableau.proofs.Walking.{none}
use Rattle.tableau.proofs.walks.turn.Goals as goal

pub returns-in_err-check_room : goal.returns-in_err-check_room
returns-in_err-check_room c =
    let q = c.requires in
    stuck c.args.sheet.now.nodes.now c.args.space c.args.counts c.args.states.now c.args.arcs.now c.args.pending.now none c.plan_for-plan.result q.inside q.some q.states q.arcs q.pending
    c.plan_for-plan.ensures _ _ c.in_err-check_room.ensures c.from_residual.ensures.1

pub returns : goal.returns
returns c =
    let w = c.write.ensures in
    let q = c.requires in
    went c.args.sheet.now.nodes.now c.args.space c.args.counts c.args.states.now c.args.arcs.now c.args.pending.now none c.plan_for-plan.result q.inside q.some q.states q.arcs q.pending
    c.plan_for-plan.ensures c.in_ok-check_room.ensures c.write.result c.write.new.states c.write.new.arcs c.write.new.pending w.counts w.states w.arcs w.pending
