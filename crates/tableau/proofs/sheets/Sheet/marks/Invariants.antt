use Rattle.std.proofs.Common.{◌≡◌, ◌≤◌}
use Rattle.automata.specs.Steps.{marks_below, untils_below}
use Rattle.tableau.proofs.sheets.Sheet.marks.Given as goal

abbrev pub invariant-loop-k : goal.invariant-loop-k
invariant-loop-k l = (l.borne ≡ marks_below l.self.nodes.now l.old l.k) × ((l.untils ≡ untils_below l.self.nodes.now l.k) × (l.untils ≤ l.k))
