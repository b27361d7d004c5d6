use Rattle.std.proofs.Common.{◌≡◌, ℕ}
use Rattle.automata.specs.Steps.{signals}
use Rattle.automata.specs.declared.nodes.CoreNode.{CoreNode}
use Rattle.tableau.specs.declared.sheets.Checked.{Checked}
use Rattle.tableau.proofs.sheets.Sheet.signals.Given as goal

abbrev pub invariant-loop-k : goal.invariant-loop-k
invariant-loop-k g l =
    (bit : CoreNode → ℕ) → ((n : Checked) (r : ℕ) → goal.F-post g l.literal n r → r ≡ bit n.node) → l.signals ≡ signals bit l.self.nodes.now l.old l.k
