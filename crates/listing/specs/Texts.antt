-- The lines of a listing, as they are printed.
use Rattle.std.specs.Prelude.{ℕ, List, ◌++◌, false, codes, Ok, Err, Result}
use Rattle.std.specs.Fmt.{decimal, digits}
use Rattle.automata.specs.declared.items.Arc.{Arc}
use Rattle.automata.specs.declared.items.State.{State}
use Rattle.tableau.specs.Stepping.{ended}
use Rattle.tableau.specs.Texts.{lack_text}
use Rattle.listing.specs.Refusals.{list_number, list_start}
use Rattle.listing.specs.declared.fault.ListFault.{ListFault}
use Rattle.listing.specs.declared.fault.ListFault.TheVariants.{Read, Begin}
use Rattle.listing.specs.declared.outcome.Listed.{Listed}
use Rattle.listing.specs.declared.outcome.Listed.TheVariants.{Finished, NoRoom}
use Rattle.listing.specs.declared.text.HeadLine.{HeadLine}
use Rattle.listing.specs.declared.text.HeadLine.TheVariants.{Automaton, NoRoom as NoRoomLine, Refused}

-- the stage that refuses
abbrev pub stage_text : ListFault → List ℕ
stage_text (Read fault) = codes "read"
stage_text (Begin fault) = codes "begin"

-- the first line of what becomes of a rule file
abbrev pub head_of : Result Listed ListFault → HeadLine
head_of (Ok (Finished t)) = Automaton (ended t).states (ended t).arcs (ended t).sets (ended t).steps
head_of (Ok (NoRoom t lack)) = NoRoomLine lack
head_of (Err fault) = Refused fault

-- its letter, and then the four counts, what there is no room for, or the refusal's number, stage and byte
abbrev pub head_text : HeadLine → List ℕ
head_text (Automaton states arcs sets steps) =
    codes "A " ++ decimal states ++ codes " " ++ decimal arcs ++ codes " " ++ decimal sets ++ codes " " ++ decimal steps
head_text (NoRoomLine lack) = codes "N " ++ lack_text lack
head_text (Refused fault) = codes "R " ++ decimal (list_number fault) ++ codes " " ++ stage_text fault ++ codes " " ++ decimal (list_start fault)

-- a number by the digits 0 to 9 and a to f
abbrev pub hexadecimal : ℕ → List ℕ
hexadecimal n = digits 16 false n

-- the number of a state, its signals that are on and those that are off, and its marks
abbrev pub state_text : ℕ → State → List ℕ
state_text number state =
    codes "S " ++ decimal number ++ codes " " ++ hexadecimal state.on ++ codes " " ++ hexadecimal state.off ++ codes " " ++ hexadecimal state.marks

-- where an arc begins and where it ends
abbrev pub arc_text : Arc → List ℕ
arc_text arc = codes "E " ++ decimal arc.from ++ codes " " ++ decimal arc.to
