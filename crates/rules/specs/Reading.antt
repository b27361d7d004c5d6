-- Reading a rule file is entering its commands in turn.
use Rattle.std.specs.Prelude.{◌≡◌, ℕ, ◌+◌, ◌<◌, ◌≤◌, ◌⊎◌, List, length, drop, Ok, Err}
use Rattle.rules.specs.Entering.{Enters}
use Rattle.rules.specs.declared.fault.EnterFault.{EnterFault}
use Rattle.rules.specs.declared.node.Node.{Node}
use Rattle.rules.specs.declared.node.Place.{Place}

-- what reading answers, but for the bytes that it hands back
pub data Reading : Type 0 where
  -- the place of the rule
  rule : Place → Reading
  -- the file is empty or too long
  wrong_size : Reading
  -- a command was refused, and starts at this byte
  refused : EnterFault → ℕ → Reading

-- from byte `start` of the file on: the last command's place is the rule, and the first refusal ends it
pub data ReadsFrom (file : List ℕ) : ℕ → List Node → Reading → List Node → Type 0 where
  stops : {start : ℕ} {before after : List Node} {fault : EnterFault}
      → Enters before (drop start file) (Err fault) after → ReadsFrom file start before (refused fault start) after
  ends : {start length_of : ℕ} {before after : List Node} {place : Place}
      → Enters before (drop start file) (Ok (place, length_of)) after → length file ≤ start + length_of → ReadsFrom file start before (rule place) after
  goes_on : {start length_of : ℕ} {before between after : List Node} {place : Place} {answer : Reading}
      → Enters before (drop start file) (Ok (place, length_of)) between → start + length_of < length file
      → ReadsFrom file (start + length_of) between answer after → ReadsFrom file start before answer after

-- a read call: the book before, the file, the answer, the book after
pub data Reads (before : List Node) (file : List ℕ) (answer : Reading) (after : List Node) : Type 0 where
  wrong : (length file ≡ 0) ⊎ (4096 < length file) → answer ≡ wrong_size → after ≡ before → Reads before file answer after
  reads : 0 < length file → length file ≤ 4096 → ReadsFrom file 0 before answer after → Reads before file answer after
