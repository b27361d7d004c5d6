-- Writing with a memory: what is remembered stands on the draft.
use Rattle.std.specs.Prelude.{◌≡◌, ℕ, Bool, List, ◌++◌, Some, Option}
use Rattle.automata.specs.Cores.{Core, core_of}
use Rattle.automata.specs.Sheets.{write}
use Rattle.automata.specs.declared.nodes.CoreNode.{CoreNode}
use Rattle.coreform.specs.Drafts.{Drafted}
use Rattle.coreform.specs.Remembered.{number_of}
use Rattle.coreform.specs.declared.numbers.Numbers.{Numbers}
use Rattle.rules.specs.declared.node.Node.{Node}
use Rattle.semantics.specs.Rules.{rule_at}

-- on the sheet, and on each longer one, the core form has this number and is not written again
abbrev pub Stands : Core → List CoreNode → ℕ → Type 0
Stands c sheet k = (more : List CoreNode) → write c (sheet ++ more) ≡ record { sheet = sheet ++ more; root = k }

-- each number that is remembered is right
abbrev pub Known : List Node → List CoreNode → Numbers → Type 0
Known book draft n = (polarity : Bool) (k x : ℕ) → number_of n polarity k ≡ Some x → Stands (core_of (rule_at book k) polarity) draft x

-- the core form is now written on the draft, under the number that was answered, or has no room there
abbrev pub Writes : Core → List CoreNode → Option ℕ → List CoreNode → Type 0
Writes c before answer after = Drafted after answer (write c before)
