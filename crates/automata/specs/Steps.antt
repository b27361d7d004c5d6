-- The steps of a translation, for whatever stands on the lists.
use Rattle.std.specs.Prelude.{ℕ, zero, suc, ◌+◌, ◌^◌, Bool, true, false, if◌then◌else◌, ◌&&◌, List, [], ◌∷◌, ◌++◌, length, ◌==◌, bit_or, nat_le, nat_lt, slice_index_or}
use Rattle.automata.specs.Sets.{has, insert, remove, lowest, join, empty, set_of}
use Rattle.automata.specs.declared.items.Arc.{Arc}
use Rattle.automata.specs.declared.items.Item.{Item}
use Rattle.automata.specs.declared.items.State.{State}
use Rattle.automata.specs.declared.nodes.CoreNode.{CoreNode}
use Rattle.automata.specs.declared.nodes.CoreNode.TheVariants.{True, False, On, Off, Next, And, Or, Until, Release}
use Rattle.automata.specs.declared.nodes.CoreSet.{CoreSet}

-- ---- reading the sheet of n nodes
-- both numbers are below n
abbrev pub both_below : ℕ → ℕ → ℕ → Bool
both_below n a b = nat_lt a n && nat_lt b n

-- whether each number that a node names is below n, and each signal below 64
abbrev pub sound_on : ℕ → CoreNode → Bool
sound_on n (On s) = nat_lt s 64
sound_on n (Off s) = nat_lt s 64
sound_on n (Next a) = nat_lt a n
sound_on n (And a b) = both_below n a b
sound_on n (Or a b) = both_below n a b
sound_on n (Until a b) = both_below n a b
sound_on n (Release a b) = both_below n a b
sound_on n node = true

-- a node that names a number that is not on the sheet, or a signal above 63, counts as false
abbrev pub checked : ℕ → CoreNode → CoreNode
checked n node = if sound_on n node then node else False

-- what stands on the sheet under number k, as it counts; false where nothing does
abbrev pub node_on : List CoreNode → ℕ → CoreNode
node_on sheet k = checked (length sheet) (slice_index_or sheet k False)

-- ---- what a state keeps
-- the signal of an on literal, as a bit of a word; no bit of any other node
abbrev pub on_bit : CoreNode → ℕ
on_bit (On s) = 2 ^ s
on_bit node = 0

-- the signal of an off literal, as a bit of a word; no bit of any other node
abbrev pub off_bit : CoreNode → ℕ
off_bit (Off s) = 2 ^ s
off_bit node = 0

-- the signals whose literal, on or off, is among the members below n
abbrev pub signals : (CoreNode → ℕ) → List CoreNode → CoreSet → ℕ → ℕ
signals literal sheet old zero = 0
signals literal sheet old (suc n) = bit_or (signals literal sheet old n) (if has old n then literal (node_on sheet n) else 0)

-- the signals whose on literal is in Old
abbrev pub on_signals : List CoreNode → CoreSet → ℕ
on_signals sheet old = signals on_bit sheet old (length sheet)

-- the signals whose off literal is in Old
abbrev pub off_signals : List CoreNode → CoreSet → ℕ
off_signals sheet old = signals off_bit sheet old (length sheet)

-- 1 for an until, 0 for any other node
abbrev pub is_until : CoreNode → ℕ
is_until (Until a b) = 1
is_until node = 0

-- how many untils there are below number n
abbrev pub untils_below : List CoreNode → ℕ → ℕ
untils_below sheet zero = 0
untils_below sheet (suc n) = untils_below sheet n + is_until (node_on sheet n)

-- the mark set of each until, by number: borne where the until is not in Old, or its second operand is
abbrev pub mark_of : CoreNode → ℕ → CoreSet → ℕ → ℕ
mark_of (Until a b) k old j = if has old k then if has old b then 2 ^ j else 0 else 2 ^ j
mark_of node k old j = 0

-- the marks of a state with this Old, for the untils below number n
abbrev pub marks_below : List CoreNode → CoreSet → ℕ → ℕ
marks_below sheet old zero = 0
marks_below sheet old (suc n) = bit_or (marks_below sheet old n) (mark_of (node_on sheet n) n old (untils_below sheet n))

-- the state with this Old and Next: what else it keeps follows from Old and the sheet
abbrev pub state_of : List CoreNode → CoreSet → CoreSet → State
state_of sheet old next = record {
  old = old;
  next = next;
  marks = marks_below sheet old (length sheet);
  on = on_signals sheet old;
  off = off_signals sheet old;
}

-- ---- one step
-- what has been made so far; the item put in last stands first
pub record Config : Type 0 where
  pub steps : ℕ
  pub states : List State
  pub arcs : List Arc
  pub pending : List Item

-- false, or a literal whose opposite is in Old
abbrev pub drops : List CoreNode → CoreSet → CoreNode → Bool
drops sheet old False = true
drops sheet old (On s) = has (set_of (off_signals sheet old)) s
drops sheet old (Off s) = has (set_of (on_signals sheet old)) s
drops sheet old node = false

-- an item with this source, New, Old and Next
abbrev pub item : ℕ → CoreSet → CoreSet → CoreSet → Item
item source new old next = record { source = source; new = new; old = old; next = next }

-- the items that go back in for core number k, the one to be taken next first
abbrev pub split : CoreNode → ℕ → ℕ → CoreSet → CoreSet → CoreSet → List Item
split True k f n o x = item f n o x ∷ []
split False k f n o x = []
split (On s) k f n o x = item f n o x ∷ []
split (Off s) k f n o x = item f n o x ∷ []
split (Next a) k f n o x = item f n o (insert x a) ∷ []
split (And a b) k f n o x = item f (join b o (join a o n)) o x ∷ []
split (Or a b) k f n o x = item f (join a o n) o x ∷ item f (join b o n) o x ∷ []
split (Until a b) k f n o x = item f (join a o n) o (insert x k) ∷ item f (join b o n) o x ∷ []
split (Release a b) k f n o x = item f (join b o n) o (insert x k) ∷ item f (join b o (join a o n)) o x ∷ []

-- the core number that leaves New
abbrev pub choice : CoreSet → ℕ
choice new = lowest new

-- the items that go back in when core number k leaves New of item i: none where the node drops it
abbrev pub taken : List CoreNode → ℕ → Item → List Item
taken sheet k i =
    if drops sheet i.old (node_on sheet k) then []
    else split (node_on sheet k) k i.source (remove i.new k) (insert i.old k) i.next

-- the state has this Old and Next
abbrev pub is_state : State → CoreSet → CoreSet → Bool
is_state s old next = s.old.bits == old.bits && s.next.bits == next.bits

-- how many states come before the first with this Old and Next
abbrev pub states_before : CoreSet → CoreSet → List State → ℕ
states_before old next [] = 0
states_before old next (s ∷ ss) = if is_state s old next then 0 else suc (states_before old next ss)

-- the arcs have the same two ends
abbrev pub same_arc : Arc → Arc → Bool
same_arc a b = a.from == b.from && a.to == b.to

-- an arc with the same two ends is in the list
abbrev pub arc_among : Arc → List Arc → Bool
arc_among a [] = false
arc_among a (b ∷ bs) = if same_arc b a then true else arc_among a bs

-- an arc between two states, by their numbers; 0 is the start
abbrev pub arc : ℕ → ℕ → Arc
arc from to = record { from = from; to = to }

-- an arc to one of n states is added unless present; one that names a state above n counts as absent
abbrev pub add_arc : ℕ → Arc → List Arc → List Arc
add_arc n a arcs = if nat_le a.from n && arc_among a arcs then arcs else arcs ++ a ∷ []

-- New is empty: a state has this Old and Next, or a new one is made
abbrev pub settle : Bool → List CoreNode → Item → List Item → Config → Config
settle true sheet i rest c = record {
  steps = c.steps + 1;
  states = c.states;
  arcs = add_arc (length c.states) (arc i.source (states_before i.old i.next c.states + 1)) c.arcs;
  pending = rest;
}
settle false sheet i rest c = record {
  steps = c.steps + 1;
  states = c.states ++ state_of sheet i.old i.next ∷ [];
  arcs = c.arcs ++ arc i.source (length c.states + 1) ∷ [];
  pending = item (length c.states + 1) i.next empty empty ∷ rest;
}

-- one step with the item that was taken out (true where its New is empty) and the rest of the pending ones
abbrev pub step_on : List CoreNode → Bool → Item → List Item → Config → Config
step_on sheet true i rest c = settle (nat_lt (states_before i.old i.next c.states) (length c.states)) sheet i rest c
step_on sheet false i rest c = record {
  steps = c.steps + 1;
  states = c.states;
  arcs = c.arcs;
  pending = taken sheet (choice i.new) i ++ rest;
}

-- one step with these items pending; with none, all stays as it is
abbrev pub step_with : List CoreNode → List Item → Config → Config
step_with sheet [] c = c
step_with sheet (i ∷ rest) c = step_on sheet (i.new.bits == 0) i rest c

-- one step: the item put in last is taken out
abbrev pub one_step : List CoreNode → Config → Config
one_step sheet c = step_with sheet c.pending c

-- before the first step: one item, from the start, with the root in New
abbrev pub started : ℕ → Config
started root = record { steps = 0; states = []; arcs = []; pending = item 0 (set_of (2 ^ root)) empty empty ∷ [] }

-- the defined steps, one after the other
unfoldable pub after : List CoreNode → ℕ → ℕ → Config
after sheet root zero = started root
after sheet root (suc n) = one_step sheet (after sheet root n)

-- ---- step after step, within the room there is
pub record Room : Type 0 where
  pub steps : ℕ
  pub states : ℕ
  pub arcs : ℕ
  pub pending : ℕ

-- what there may be no room for
pub data Lacking : Type 0 where
  steps states arcs pending : Lacking

-- how a call of step answers where it is not refused
pub data Progressed : Type 0 where
  finished running : Progressed
  no_room : Lacking → Progressed

-- the first of the four that a config has too much of, or else the answer
abbrev pub within : Room → Config → Progressed → Progressed
within room c answer =
    if nat_lt room.steps c.steps then no_room steps
    else if nat_lt room.states (length c.states) then no_room states
    else if nat_lt room.arcs (length c.arcs) then no_room arcs
    else if nat_lt room.pending (length c.pending) then no_room pending else answer

-- what had been made when the steps ended, and the answer
pub record Advanced : Type 0 where
  pub config : Config
  pub answer : Progressed

-- where there is no room for the step, what was made before it stands; else more
abbrev pub unless_lacking : Progressed → Config → Advanced → Advanced
unless_lacking finished c more = more
unless_lacking running c more = more
unless_lacking (no_room l) c more = record { config = c; answer = no_room l }

-- where nothing is pending, it is finished; else more
abbrev pub unless_finished : List Item → Config → Advanced → Advanced
unless_finished [] c more = record { config = c; answer = finished }
unless_finished (i ∷ rest) c more = more

-- at most so many steps: before each it looks whether it is finished, then at the allowance, then at the room
unfoldable pub advance : List CoreNode → Room → ℕ → Config → Advanced
advance sheet room zero c = unless_finished c.pending c (record { config = c; answer = running })
advance sheet room (suc n) c =
    unless_finished c.pending c (unless_lacking (within room (one_step sheet c) running) c (advance sheet room n (one_step sheet c)))
