-- The steps that write the core form of a node.
use Rattle.std.specs.Prelude.{ℕ, Bool, true, false, not, List, [], ◌∷◌, ◌++◌, slice_index}
use Rattle.automata.specs.Cores.{core_of}
use Rattle.automata.specs.Sheets.{Written, put, write}
use Rattle.automata.specs.declared.nodes.CoreNode.{CoreNode}
use Rattle.automata.specs.declared.nodes.CoreNode.TheVariants as core
use Rattle.coreform.specs.declared.recipe.Step.{Step}
use Rattle.coreform.specs.declared.recipe.Step.TheVariants.{Write, Put}
use Rattle.rules.specs.declared.node.BinaryOp.{BinaryOp}
use Rattle.rules.specs.declared.node.BinaryOp.TheVariants as binary
use Rattle.rules.specs.declared.node.Node.{Node}
use Rattle.rules.specs.declared.node.Node.TheVariants.{True, False, Signal, Unary, Binary}
use Rattle.rules.specs.declared.node.Place.{Place}
use Rattle.rules.specs.declared.node.UnaryOp.{UnaryOp}
use Rattle.rules.specs.declared.node.UnaryOp.TheVariants as unary
use Rattle.semantics.specs.Rules.{Rule}

-- the operands one after the other, and a node over both
abbrev pub pair : CoreNode → Place → Bool → Place → Bool → List Step
pair node a p b q = Write a p ∷ Write b q ∷ Put node ∷ []

-- eventually and always: a constant, the operand, and a node over both
abbrev pub fixed : CoreNode → CoreNode → Place → Bool → List Step
fixed leaf node a p = Put leaf ∷ Write a p ∷ Put node ∷ []

-- weak until and strong release: the right operand, and beside it a node over both
abbrev pub guard : CoreNode → CoreNode → Place → Place → Bool → List Step
guard outer inner a b p = Write b p ∷ Write a p ∷ Write b p ∷ Put inner ∷ Put outer ∷ []

-- equivalent and exclusive or: one way, the other way, and either
abbrev pub twins : Place → Place → Bool → List Step
twins a b q = Write a true ∷ Write b q ∷ Put (core.And 0 1) ∷ Write a false ∷ Write b (not q) ∷ Put (core.And 3 4) ∷ Put (core.Or 2 5) ∷ []

-- the steps for an operator of one operand, which stands at place a: for the rule (true) or its denial (false)
abbrev pub unary_recipe : UnaryOp → Bool → Place → List Step
unary_recipe unary.Not true a = Write a false ∷ []
unary_recipe unary.Not false a = Write a true ∷ []
unary_recipe unary.Next p a = Write a p ∷ Put (core.Next 0) ∷ []
unary_recipe unary.Eventually true a = fixed core.True (core.Until 0 1) a true
unary_recipe unary.Eventually false a = fixed core.False (core.Release 0 1) a false
unary_recipe unary.Always true a = fixed core.False (core.Release 0 1) a true
unary_recipe unary.Always false a = fixed core.True (core.Until 0 1) a false

-- the same for an operator of two operands, at places a and b
abbrev pub binary_recipe : BinaryOp → Bool → Place → Place → List Step
binary_recipe binary.And true a b = pair (core.And 0 1) a true b true
binary_recipe binary.And false a b = pair (core.Or 0 1) a false b false
binary_recipe binary.Or true a b = pair (core.Or 0 1) a true b true
binary_recipe binary.Or false a b = pair (core.And 0 1) a false b false
binary_recipe binary.Implies true a b = pair (core.Or 0 1) a false b true
binary_recipe binary.Implies false a b = pair (core.And 0 1) a true b false
binary_recipe binary.Equivalent true a b = twins a b true
binary_recipe binary.Equivalent false a b = twins a b false
binary_recipe binary.ExclusiveOr true a b = twins a b false
binary_recipe binary.ExclusiveOr false a b = twins a b true
binary_recipe binary.Until true a b = pair (core.Until 0 1) a true b true
binary_recipe binary.Until false a b = pair (core.Release 0 1) a false b false
binary_recipe binary.Release true a b = pair (core.Release 0 1) a true b true
binary_recipe binary.Release false a b = pair (core.Until 0 1) a false b false
binary_recipe binary.WeakUntil true a b = guard (core.Release 0 3) (core.Or 1 2) a b true
binary_recipe binary.WeakUntil false a b = guard (core.Until 0 3) (core.And 1 2) a b false
binary_recipe binary.StrongRelease true a b = guard (core.Until 0 3) (core.And 1 2) a b true
binary_recipe binary.StrongRelease false a b = guard (core.Release 0 3) (core.Or 1 2) a b false

-- the steps for a node (true) or its denial (false)
abbrev pub recipe_of : Node → Bool → List Step
recipe_of True true = Put core.True ∷ []
recipe_of True false = Put core.False ∷ []
recipe_of False true = Put core.False ∷ []
recipe_of False false = Put core.True ∷ []
recipe_of (Signal s) true = Put (core.On s) ∷ []
recipe_of (Signal s) false = Put (core.Off s) ∷ []
recipe_of (Unary op a) p = unary_recipe op p a
recipe_of (Binary op a b) p = binary_recipe op p a b

-- ---- what the steps write, over the rules at the places
pub record Made : Type 0 where
  pub sheet : List CoreNode
  -- the numbers that the steps answered, in order
  pub numbers : List ℕ

-- a node whose operands are the numbers that these steps answered
abbrev pub node_over : CoreNode → List ℕ → CoreNode
node_over (core.Next i) ns = core.Next (slice_index ns i)
node_over (core.And i j) ns = core.And (slice_index ns i) (slice_index ns j)
node_over (core.Or i j) ns = core.Or (slice_index ns i) (slice_index ns j)
node_over (core.Until i j) ns = core.Until (slice_index ns i) (slice_index ns j)
node_over (core.Release i j) ns = core.Release (slice_index ns i) (slice_index ns j)
node_over leaf ns = leaf

-- what one step writes on the sheet, over the numbers of the steps before it
abbrev pub stepped : (ℕ → Rule) → Step → List ℕ → List CoreNode → Written
stepped rule (Write a p) ns sheet = write (core_of (rule a.index) p) sheet
stepped rule (Put node) ns sheet = put (node_over node ns) sheet

-- what the steps write one after the other, from these numbers and this sheet on
abbrev pub made : (ℕ → Rule) → List Step → List ℕ → List CoreNode → Made
made rule [] ns sheet = record { sheet = sheet; numbers = ns }
made rule (s ∷ ss) ns sheet = let w = stepped rule s ns sheet in made rule ss (ns ++ w.root ∷ []) w.sheet
