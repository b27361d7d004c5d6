use Rattle.tableau.proofs.Planned.{settled}
use Rattle.tableau.proofs.plans.plan_for.Goals as goal

pub returns-then-item-eq0 : goal.returns-then-item-eq0
returns-then-item-eq0 c = settled c.args.sheet.now.nodes.now c.args.states.now c.args.arcs.now c.args.item _ c.plan_settled.ensures c.if-item-eq0.true
