use Rattle.tableau.proofs.Walking.{Going}
use Rattle.tableau.proofs.walks.advance.Given as goal

abbrev pub invariant-loop : goal.invariant-loop
invariant-loop l = Going l.sheet.nodes.now l.initial.counts l.initial.states l.initial.arcs l.initial.pending l.allowance l.counts l.states l.arcs l.pending l.counter
