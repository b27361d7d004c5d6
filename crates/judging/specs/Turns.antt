-- What a node says of one scan, from the truths of its operands at this scan and the next.
use Rattle.std.specs.Prelude.{ℕ, Bool, true, false, not, ◌&&◌, ◌||◌, ◌==◌}
use Rattle.rules.specs.declared.node.BinaryOp.{BinaryOp}
use Rattle.rules.specs.declared.node.BinaryOp.TheVariants.{And, Or, Implies, Equivalent, ExclusiveOr, Until, Release, WeakUntil, StrongRelease}
use Rattle.rules.specs.declared.node.Node.{Node}
use Rattle.rules.specs.declared.node.Node.TheVariants.{True, False, Signal, Unary, Binary}
use Rattle.rules.specs.declared.node.UnaryOp.{UnaryOp}
use Rattle.rules.specs.declared.node.UnaryOp.TheVariants.{Not, Next, Eventually, Always}
use Rattle.semantics.specs.Meaning.{bit}

-- an operator of one operand holds at a scan, whatever it says of the next one; where it denies, its denial does
abbrev pub unary_hold : UnaryOp → Bool → Bool → Bool
unary_hold Not now next = not now
unary_hold Next now next = next
unary_hold Eventually now next = now
unary_hold Always now next = not now

-- it passes on: where it does not hold at a scan, it says there what it says of the next one
abbrev pub unary_pass : UnaryOp → Bool
unary_pass Eventually = true
unary_pass Always = true
unary_pass op = false

-- an operator of two operands holds at a scan, in the same sense
abbrev pub binary_hold : BinaryOp → Bool → Bool → Bool
binary_hold And a b = a && b
binary_hold Or a b = a || b
binary_hold Implies a b = not a || b
binary_hold Equivalent a b = (a && b) || (not a && not b)
binary_hold ExclusiveOr a b = (a && not b) || (not a && b)
binary_hold Until a b = b
binary_hold Release a b = not b
binary_hold WeakUntil a b = b
binary_hold StrongRelease a b = not b

-- an operator of two operands passes on, in the same sense
abbrev pub binary_pass : BinaryOp → Bool → Bool
binary_pass Until a = a
binary_pass Release a = not a
binary_pass WeakUntil a = a
binary_pass StrongRelease a = not a
binary_pass op a = false

-- the node holds at a scan with this word, where `now` and `next` tell the truths of the places
abbrev pub node_hold : Node → ℕ → (ℕ → Bool) → (ℕ → Bool) → Bool
node_hold True word now next = true
node_hold False word now next = false
node_hold (Signal s) word now next = bit word s == 1
node_hold (Unary op a) word now next = unary_hold op (now a.index) (next a.index)
node_hold (Binary op a b) word now next = binary_hold op (now a.index) (now b.index)

-- the node passes on what it says of the next scan
abbrev pub node_pass : Node → (ℕ → Bool) → Bool
node_pass (Unary op a) now = unary_pass op
node_pass (Binary op a b) now = binary_pass op (now a.index)
node_pass node now = false

-- a node that passes on for ever is true
abbrev pub binary_lasts : BinaryOp → Bool
binary_lasts WeakUntil = true
binary_lasts StrongRelease = true
binary_lasts op = false

-- the same for any node
abbrev pub lasts_of : Node → Bool
lasts_of (Binary op a b) = binary_lasts op
lasts_of node = false

-- the node says the denial of what its turns say
abbrev pub unary_denies : UnaryOp → Bool
unary_denies Always = true
unary_denies op = false

-- the same for an operator of two operands
abbrev pub binary_denies : BinaryOp → Bool
binary_denies Release = true
binary_denies StrongRelease = true
binary_denies op = false

-- the same for any node
abbrev pub denies_of : Node → Bool
denies_of (Unary op a) = unary_denies op
denies_of (Binary op a b) = binary_denies op
denies_of node = false
