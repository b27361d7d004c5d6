-- The work list while it is filled: the places below p are told right, and the others are not told.
use Rattle.std.specs.Prelude.{ℕ, ◌<◌, List, length, Decides}
use Rattle.rules.specs.declared.node.Node.{Node}
use Rattle.semantics.specs.Lassos.{Lasso, unrolled}
use Rattle.semantics.specs.Meaning.{Holds}
use Rattle.semantics.specs.Rules.{rule_at}
use Rattle.judging.specs.Truths.{told}

-- at every scan, a place is told true exactly where it is below p and its rule holds
abbrev pub Tabled : List Node → Lasso → ℕ → List ℕ → Type 0
Tabled book l p work = (i q : ℕ) → i < length l.words → q < 256 → Decides (told work i q) ((q < p) × Holds (rule_at book q) (unrolled l) i)
