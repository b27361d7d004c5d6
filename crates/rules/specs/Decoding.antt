-- The node that the command at the front of some bytes says, and the command's length, or the fault.
use Rattle.std.specs.Prelude.{ℕ, ◌+◌, ◌*◌, if◌then◌else◌, List, [], ◌∷◌, Some, None, Ok, Err, Option, Result, nat_le}
use Rattle.rules.specs.Commands.{command_of}
use Rattle.rules.specs.declared.command.Command.{Command}
use Rattle.rules.specs.declared.command.Command.TheVariants as command
use Rattle.rules.specs.declared.fault.EnterFault.{EnterFault}
use Rattle.rules.specs.declared.fault.EnterFault.TheVariants.{UnknownCommand, Truncated, SignalAbove}
use Rattle.rules.specs.declared.node.Node.{Node}
use Rattle.rules.specs.declared.node.Node.TheVariants as node
use Rattle.rules.specs.declared.node.Place.{Place}

-- two bytes, the high one first
abbrev pub number : ℕ → ℕ → ℕ
number high low = high * 256 + low

-- the place that two bytes name
abbrev pub place : ℕ → ℕ → Place
place high low = record { index = number high low }

-- a node and the length of its command, or the fault
abbrev pub Decoded : Type 0
Decoded = Result (Node × ℕ) EnterFault

-- the node of a signal; its number is at most 63
abbrev pub signal : ℕ → Decoded
signal s = if nat_le s 63 then Ok (node.Signal s, 3) else Err (SignalAbove s)

-- what the bytes after the command byte b make of its command
abbrev pub operands : ℕ → Option Command → List ℕ → Decoded
operands b None rest = Err (UnknownCommand b)
operands b (Some (command.Plain n)) rest = Ok (n, 1)
operands b (Some command.Signal) [] = Err Truncated
operands b (Some command.Signal) (h ∷ []) = Err Truncated
operands b (Some command.Signal) (h ∷ l ∷ rest) = signal (number h l)
operands b (Some (command.Unary o)) [] = Err Truncated
operands b (Some (command.Unary o)) (h ∷ []) = Err Truncated
operands b (Some (command.Unary o)) (h ∷ l ∷ rest) = Ok (node.Unary o (place h l), 3)
operands b (Some (command.Binary o)) [] = Err Truncated
operands b (Some (command.Binary o)) (h ∷ []) = Err Truncated
operands b (Some (command.Binary o)) (h ∷ l ∷ []) = Err Truncated
operands b (Some (command.Binary o)) (h ∷ l ∷ i ∷ []) = Err Truncated
operands b (Some (command.Binary o)) (h ∷ l ∷ i ∷ m ∷ rest) = Ok (node.Binary o (place h l) (place i m), 5)

-- what the bytes say; without any, they end before a command
abbrev pub decoded : List ℕ → Decoded
decoded [] = Err Truncated
decoded (b ∷ rest) = operands b (command_of b) rest
