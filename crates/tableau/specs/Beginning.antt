-- What a call of begin answers, and what it writes on the lists that it is lent.
use Rattle.std.specs.Prelude.{◌≡◌, ℕ, ◌^◌, if◌then◌else◌, List, ◌∷◌, ◌++◌, length, drop, Some, None, Ok, Err, Option, Result, nat_le, nat_lt}
use Rattle.automata.specs.Sets.{empty, set_of}
use Rattle.automata.specs.Sheets.{Written}
use Rattle.automata.specs.Steps.{item, untils_below}
use Rattle.automata.specs.declared.items.Item.{Item}
use Rattle.automata.specs.declared.nodes.CoreNode.{CoreNode}
use Rattle.coreform.specs.Forms.{form_at}
use Rattle.coreform.specs.declared.form.FormFault.TheVariants.{NotInBook, TooManyNodes}
use Rattle.rules.specs.declared.node.Node.{Node}
use Rattle.rules.specs.declared.node.Place.{Place}
use Rattle.tableau.specs.declared.limits.TheConstants.{MOST_CORES, MOST_UNTILS}
use Rattle.tableau.specs.Stepping.{Standing, standing}
use Rattle.tableau.specs.declared.fault.BeginFault.{BeginFault}
use Rattle.tableau.specs.declared.fault.BeginFault.TheVariants.{Form, TooManyUntils, Short}
use Rattle.tableau.specs.declared.fault.LentList.TheVariants.{Sheet, Pending}
use Rattle.tableau.specs.declared.translation.Running.{Running}

-- how many nodes a core form has
abbrev pub cores : Written → ℕ
cores w = length w.sheet

-- how many untils it has
abbrev pub untils : Written → ℕ
untils w = untils_below w.sheet (cores w)

-- the first list that is too short for a core form of n nodes
abbrev pub short_for : ℕ → List CoreNode → List Item → Option BeginFault
short_for n sheet pending =
    if nat_lt (length sheet) n then Some (Short (record { list = Sheet; needed = n }))
    else if nat_lt (length pending) 1 then Some (Short (record { list = Pending; needed = 1 })) else None

-- the refusal of a core form: the nodes (over 64), then the untils (over 16), then the lists
abbrev pub form_fault : Written → List CoreNode → List Item → Option BeginFault
form_fault w sheet pending =
    if nat_le (cores w) MOST_CORES
    then if nat_le (untils w) MOST_UNTILS then short_for (cores w) sheet pending else Some (TooManyUntils (untils w))
    else Some (Form TooManyNodes)

-- the refusal that stands: the place, then what is refused of its core form
abbrev pub begin_fault : List Node → Place → List CoreNode → List Item → Option BeginFault
begin_fault book place sheet pending =
    if nat_lt place.index (length book) then form_fault (form_at book place) sheet pending else Some (Form (NotInBook place))

-- the numbers of a translation that has begun
abbrev pub begun : Written → Standing
begun w = record { cores = cores w; sets = untils w; steps = 0; states = 0; arcs = 0; pending = 1 }

-- source 0, New holding the rule's core number
abbrev pub first_item : ℕ → Item
first_item root = item 0 (set_of (2 ^ root)) empty empty

-- what begin's answer says: the numbers of the translation, or the refusal
abbrev pub begins : Result Running BeginFault → Result Standing BeginFault
begins (Ok t) = Ok (standing t)
begins (Err fault) = Err fault

-- a begin call: the book, the place, the sheet and the pending list before, the answer, and both after
pub data Begins (book : List Node) (place : Place) (sheet : List CoreNode) (pending : List Item) (answer : Result Standing BeginFault) (sheet' : List CoreNode) (pending' : List Item) : Type 0 where
  refused : {fault : BeginFault} → begin_fault book place sheet pending ≡ Some fault → answer ≡ Err fault → sheet' ≡ sheet → pending' ≡ pending
      → Begins book place sheet pending answer sheet' pending'
  begun_at : begin_fault book place sheet pending ≡ None → answer ≡ Ok (begun (form_at book place))
      → sheet' ≡ (form_at book place).sheet ++ drop (cores (form_at book place)) sheet
      → pending' ≡ first_item (form_at book place).root ∷ drop 1 pending
      → Begins book place sheet pending answer sheet' pending'
