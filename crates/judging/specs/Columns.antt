-- One place at all positions of a lasso, from what the work list says of the places below it.
use Rattle.std.specs.Prelude.{ℕ, suc, Bool, true, false, List}
use Rattle.rules.specs.declared.node.Node.{Node}
use Rattle.semantics.specs.Lassos.{Lasso, scan_at, unrolled}
use Rattle.semantics.specs.Solutions.{Solution}
use Rattle.judging.specs.Truths.{told}
use Rattle.judging.specs.Turns.{node_hold, node_pass, lasts_of, denies_of}

-- whether the node holds at each position, by the truths of its operands there
abbrev pub hold_on : Node → Lasso → List ℕ → ℕ → Bool
hold_on node l work k = node_hold node (unrolled l k) (told work (scan_at l k)) (told work (scan_at l (suc k)))

-- the same of whether it passes on
abbrev pub pass_on : Node → Lasso → List ℕ → ℕ → Bool
pass_on node l work k = node_pass node (told work (scan_at l k))

-- the fact (false), or its denial (true)
abbrev pub Denied : Bool → Type 0 → Type 0
Denied false A = A
Denied true A = ¬ A

-- what the node says at each position
abbrev pub Column : Node → Lasso → List ℕ → ℕ → Type 0
Column node l work i = Denied (denies_of node) (Solution (hold_on node l work) (pass_on node l work) (lasts_of node) i)
