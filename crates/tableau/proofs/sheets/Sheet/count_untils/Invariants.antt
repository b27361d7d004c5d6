use Rattle.std.proofs.Common.{◌≡◌, ◌≤◌}
use Rattle.automata.specs.Steps.{untils_below}
use Rattle.tableau.proofs.sheets.Sheet.count_untils.Given as goal

abbrev pub invariant-loop-k : goal.invariant-loop-k
invariant-loop-k l = (l.untils ≡ untils_below l.self.nodes.now l.k) × (l.untils ≤ l.k)
