-- What entering one command answers, and what the book holds afterwards.
use Rattle.std.specs.Prelude.{◌≡◌, ℕ, if◌then◌else◌, List, [], ◌∷◌, ◌++◌, length, Some, None, Ok, Err, Option, Result, nat_lt}
use Rattle.rules.specs.Decoding.{Decoded, decoded}
use Rattle.rules.specs.Nodes.{place_of}
use Rattle.rules.specs.declared.fault.EnterFault.{EnterFault}
use Rattle.rules.specs.declared.fault.EnterFault.TheVariants.{NotEntered, Full}
use Rattle.rules.specs.declared.node.Node.{Node}
use Rattle.rules.specs.declared.node.Node.TheVariants.{True, False, Signal, Unary, Binary}
use Rattle.rules.specs.declared.node.Place.{Place}

-- an answer, and the nodes after it
abbrev pub Outcome : Type 0 → Type 0
Outcome T = Result T EnterFault × List Node

-- the place with this index
abbrev pub at : ℕ → Place
at k = record { index = k }

-- the first operand that does not name one of n entered places
abbrev pub missing : Node → ℕ → Option Place
missing True n = None
missing False n = None
missing (Signal s) n = None
missing (Unary o a) n = if nat_lt a.index n then None else Some a
missing (Binary o a b) n = if nat_lt a.index n then if nat_lt b.index n then None else Some b else Some a

-- an equal node's place, and else the node stands last, unless there are 256
abbrev pub settled : List Node → Node → Option ℕ → Outcome Place
settled xs n (Some k) = (Ok (at k), xs)
settled xs n None = if nat_lt (length xs) 256 then (Ok (at (length xs)), xs ++ n ∷ []) else (Err Full, xs)

-- what a node that may be entered gets: the first place of an equal one, where there is one
abbrev pub added : List Node → Node → Outcome Place
added xs n = settled xs n (place_of n xs)

-- an answer with the length of the command beside the place
abbrev pub with_length : ℕ → Result Place EnterFault → Result (Place × ℕ) EnterFault
with_length l (Ok p) = Ok (p, l)
with_length l (Err f) = Err f

-- a missing operand is refused; else the node is added
abbrev pub admitted : List Node → Node → ℕ → Option Place → Outcome (Place × ℕ)
admitted xs n l (Some a) = (Err (NotEntered a), xs)
admitted xs n l None = (with_length l (added xs n).0, (added xs n).1)

-- what enter makes of decoded bytes: their fault stands, and a node is admitted or not
abbrev pub taken : List Node → Decoded → Outcome (Place × ℕ)
taken xs (Err f) = (Err f, xs)
taken xs (Ok p) = admitted xs p.0 p.1 (missing p.0 (length xs))

-- what enter makes of the bytes: its answer, and the nodes after it
abbrev pub entered : List Node → List ℕ → Outcome (Place × ℕ)
entered xs bytes = taken xs (decoded bytes)

-- an enter call: the book before, the bytes, the answer, the book after
pub record Enters (before : List Node) (bytes : List ℕ) (answer : Result (Place × ℕ) EnterFault) (after : List Node) : Type 0 where
  pub answers : answer ≡ (entered before bytes).0
  pub leaves : after ≡ (entered before bytes).1
