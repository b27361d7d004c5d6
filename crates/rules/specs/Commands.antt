-- Which byte begins which command, and how many bytes each command has.
use Rattle.std.specs.Prelude.{ℕ, if◌then◌else◌, List, [], ◌∷◌, Some, None, Option, ◌==◌}
use Rattle.rules.specs.declared.command.Command.{Command}
use Rattle.rules.specs.declared.command.Command.TheVariants.{Plain, Signal, Unary, Binary}
use Rattle.rules.specs.declared.node.Node.TheVariants.{True, False}
use Rattle.rules.specs.declared.node.UnaryOp.TheVariants.{Not, Next, Eventually, Always}
use Rattle.rules.specs.declared.node.BinaryOp.TheVariants.{And, Or, Implies, Equivalent, ExclusiveOr, Until, Release, WeakUntil, StrongRelease}

-- each command byte with what it asks for
abbrev pub commands : List (ℕ × Command)
commands =
    (0x00, Plain True) ∷ (0x01, Plain False) ∷ (0x10, Signal)
    ∷ (0x11, Unary Not) ∷ (0x12, Unary Next) ∷ (0x13, Unary Eventually) ∷ (0x14, Unary Always)
    ∷ (0x20, Binary And) ∷ (0x21, Binary Or) ∷ (0x22, Binary Implies) ∷ (0x23, Binary Equivalent) ∷ (0x24, Binary ExclusiveOr)
    ∷ (0x25, Binary Until) ∷ (0x26, Binary Release) ∷ (0x27, Binary WeakUntil) ∷ (0x28, Binary StrongRelease) ∷ []

-- the command of the first entry with this byte
abbrev pub command_in : List (ℕ × Command) → ℕ → Option Command
command_in [] b = None
command_in (c ∷ cs) b = if b == c.0 then Some c.1 else command_in cs b

-- the command that begins with a byte, where one does
abbrev pub command_of : ℕ → Option Command
command_of b = command_in commands b

-- one byte, and two more for each operand
abbrev pub length_for : Option Command → ℕ
length_for None = 0
length_for (Some (Plain n)) = 1
length_for (Some Signal) = 3
length_for (Some (Unary o)) = 3
length_for (Some (Binary o)) = 5

-- how many bytes the command has that begins with a byte; 0 where none does
abbrev pub length_of : ℕ → ℕ
length_of b = length_for (command_of b)
