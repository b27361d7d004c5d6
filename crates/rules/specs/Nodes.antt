-- When two nodes are equal, and where a node stands in a list of nodes.
use Rattle.std.specs.Prelude.{◌≡◌, ℕ, ◌+◌, Bool, Decides, if◌then◌else◌, ◌&&◌, List, [], ◌∷◌, Some, None, Option, ◌==◌}
use Rattle.rules.specs.declared.node.Node.{Node}
use Rattle.rules.specs.declared.node.Node.TheVariants.{True, False, Signal, Unary, Binary}
use Rattle.rules.specs.declared.node.UnaryOp.{UnaryOp}
use Rattle.rules.specs.declared.node.UnaryOp.TheVariants.{Not, Next, Eventually, Always}
use Rattle.rules.specs.declared.node.BinaryOp.{BinaryOp}
use Rattle.rules.specs.declared.node.BinaryOp.TheVariants.{And, Or, Implies, Equivalent, ExclusiveOr, Until, Release, WeakUntil, StrongRelease}

-- the command byte of each operator of one operand
abbrev pub unary_byte : UnaryOp → ℕ
unary_byte Not = 0x11
unary_byte Next = 0x12
unary_byte Eventually = 0x13
unary_byte Always = 0x14

-- the same for the operators of two operands
abbrev pub binary_byte : BinaryOp → ℕ
binary_byte And = 0x20
binary_byte Or = 0x21
binary_byte Implies = 0x22
binary_byte Equivalent = 0x23
binary_byte ExclusiveOr = 0x24
binary_byte Until = 0x25
binary_byte Release = 0x26
binary_byte WeakUntil = 0x27
binary_byte StrongRelease = 0x28

-- the command byte of a node
abbrev pub byte_of : Node → ℕ
byte_of True = 0x00
byte_of False = 0x01
byte_of (Signal s) = 0x10
byte_of (Unary o a) = unary_byte o
byte_of (Binary o a b) = binary_byte o

-- its first operand, or the number of its signal; 0 where it has none
abbrev pub first_of : Node → ℕ
first_of True = 0
first_of False = 0
first_of (Signal s) = s
first_of (Unary o a) = a.index
first_of (Binary o a b) = a.index

-- its second operand, 0 where it has none
abbrev pub second_of : Node → ℕ
second_of True = 0
second_of False = 0
second_of (Signal s) = 0
second_of (Unary o a) = 0
second_of (Binary o a b) = b.index

-- whether two nodes are equal: the same command byte and the same operands
unfoldable pub same : Node → Node → Bool
same x y = byte_of x == byte_of y && (first_of x == first_of y && second_of x == second_of y)

-- it is true of equal nodes and of no others, and so reflexive, symmetric and transitive
abbrev pub SameDecides : Type 0
SameDecides = (x y : Node) → Decides (same x y) (x ≡ y)

-- the first place of a node equal to n in the list, counted from i
abbrev pub place_from : ℕ → Node → List Node → Option ℕ
place_from i n [] = None
place_from i n (x ∷ xs) = if same x n then Some i else place_from (i + 1) n xs

-- the first place of a node equal to n in the list
abbrev pub place_of : Node → List Node → Option ℕ
place_of n xs = place_from 0 n xs
