-- What a call of list_rule answers, and what it makes of the lists that it is lent.
use Rattle.std.specs.Prelude.{◌≡◌, ℕ, Bool, true, false, List, [], Ok, Err, Result}
use Rattle.rules.specs.HandedBack.{told_of}
use Rattle.rules.specs.Reading.{Reads, rule}
use Rattle.rules.specs.declared.node.Node.{Node}
use Rattle.rules.specs.declared.node.Place.{Place}
use Rattle.automata.specs.Steps.{finished, running, no_room}
use Rattle.automata.specs.declared.items.Item.{Item}
use Rattle.automata.specs.declared.nodes.CoreNode.{CoreNode}
use Rattle.tableau.specs.Beginning.{Begins}
use Rattle.tableau.specs.Stepping.{Lists, lists, Standing, standing, ended, Answer, refusal, progress, lacking_of, Steps}
use Rattle.tableau.specs.declared.fault.BeginFault.{BeginFault}
use Rattle.listing.specs.Refusals.{Sized}
use Rattle.rules.specs.declared.reading.FileFault.{FileFault}
use Rattle.listing.specs.declared.fault.ListFault.{ListFault}
use Rattle.listing.specs.declared.fault.ListFault.TheVariants.{Read, Begin}
use Rattle.listing.specs.declared.outcome.Listed.{Listed}
use Rattle.listing.specs.declared.outcome.Listed.TheVariants.{Finished, NoRoom}

-- how many steps each call of step may make
abbrev pub allowance : ℕ
allowance = 65535

-- steps are still to be made
abbrev pub is_running : Answer → Bool
is_running (refusal fault s) = false
is_running (progress finished s) = false
is_running (progress running s) = true
is_running (progress (no_room l) s) = false

-- calls of step, each on the lists as the call before left them, up to the first answer that is not running
pub data StepsOn : Standing → Lists → Answer → Lists → Type 0 where
  stops : {s : Standing} {before after : Lists} {answer : Answer}
      → Steps s before allowance answer after → is_running answer ≡ false → StepsOn s before answer after
  goes_on : {s between_at : Standing} {before between after : Lists} {answer : Answer}
      → Steps s before allowance (progress running between_at) between
      → StepsOn between_at between answer after → StepsOn s before answer after

-- how the translation ended, and its numbers
abbrev pub ending : Listed → Answer
ending (Finished t) = progress finished (ended t)
ending (NoRoom t l) = progress (no_room (lacking_of l)) (standing t)

-- the file, the lists before, the answer, the lists after: the file is read into an empty book, the
-- translation of its rule is begun, and steps are made until it is finished or there is no room
pub data Listing (file : List ℕ) (before : Lists) (answer : Result Listed ListFault) (after : Lists) : Type 0 where
  unread : {fault : FileFault} {book : List Node}
      → Reads [] file (told_of fault) book → Sized file fault
      → answer ≡ Err (Read fault) → after ≡ before → Listing file before answer after
  unbegun : {fault : BeginFault} {book : List Node} {place : Place} {sheet : List CoreNode} {pending : List Item}
      → Reads [] file (rule place) book
      → Begins book place before.sheet before.pending (Err fault) sheet pending
      → answer ≡ Err (Begin fault) → after ≡ lists sheet before.states before.arcs pending
      → Listing file before answer after
  begun : {s : Standing} {l : Listed} {book : List Node} {place : Place} {sheet : List CoreNode} {pending : List Item}
      → Reads [] file (rule place) book
      → Begins book place before.sheet before.pending (Ok s) sheet pending
      → StepsOn s (lists sheet before.states before.arcs pending) (ending l) after
      → answer ≡ Ok l → Listing file before answer after
