-- Step after step over the lists, by the counts of what is in use.
use Rattle.std.specs.Prelude.{◌≡◌, ℕ, ◌≤◌, min, if◌then◌else◌, List, reverse, length, take, drop, Some, None, Ok, Err, Option, Result, ◌==◌}
use Rattle.automata.specs.Steps.{Config, Room, Progressed, finished, running, no_room, Advanced, within, one_step, advance}
use Rattle.automata.specs.declared.items.Arc.{Arc}
use Rattle.automata.specs.declared.items.Item.{Item}
use Rattle.automata.specs.declared.items.State.{State}
use Rattle.automata.specs.declared.nodes.CoreNode.{CoreNode}
use Rattle.tableau.specs.declared.limits.TheConstants.{MOST_STEPS, MOST_STATES, MOST_ARCS, MOST_PENDING}
use Rattle.tableau.specs.Rooms.{Within}
use Rattle.tableau.specs.Stepping.{lacking_of}
use Rattle.tableau.specs.declared.rooms.Counts.{Counts}
use Rattle.tableau.specs.declared.rooms.Space.{Space}
use Rattle.tableau.specs.declared.translation.Lack.{Lack}
use Rattle.tableau.specs.declared.walks.Stopped.{Stopped}

-- what has been made so far; the item put in last has the highest place
abbrev pub config_of : Counts → List State → List Arc → List Item → Config
config_of c ss xs ps = record {
  steps = c.steps;
  states = take c.states ss;
  arcs = take c.arcs xs;
  pending = reverse (take c.pending ps);
}

-- how many entries of the lists may be in use
abbrev pub space_of : List State → List Arc → List Item → Space
space_of ss xs ps = record { states = min MOST_STATES (length ss); arcs = min MOST_ARCS (length xs); pending = min MOST_PENDING (length ps) }

-- the same with the most steps that there may be
abbrev pub room_in : Space → Room
room_in s = record { steps = MOST_STEPS; states = s.states; arcs = s.arcs; pending = s.pending }

-- the answer where the steps have stopped for this lack, or for none, with so many items pending
abbrev pub answer_at : Option Lack → ℕ → Progressed
answer_at (Some l) pending = no_room (lacking_of l)
answer_at None pending = if pending == 0 then finished else running

-- the entries beyond the counts are as they were, and the lists as long; of the pending items only the length
pub record Kept (r : Counts) (ss : List State) (xs : List Arc) (ps : List Item) (ss' : List State) (xs' : List Arc) (ps' : List Item) : Type 0 where
  pub states : drop r.states ss' ≡ drop r.states ss
  pub arcs : drop r.arcs xs' ≡ drop r.arcs xs
  pub long_states : length ss' ≡ length ss
  pub long_arcs : length xs' ≡ length xs
  pub long_pending : length ps' ≡ length ps

-- one step was made
pub record Went (sheet : List CoreNode) (s : Space) (c : Counts) (ss : List State) (xs : List Arc) (ps : List Item) (r : Counts) (ss' : List State) (xs' : List Arc) (ps' : List Item) : Type 0 where
  pub config : config_of r ss' xs' ps' ≡ one_step sheet (config_of c ss xs ps)
  pub room : within (room_in s) (one_step sheet (config_of c ss xs ps)) running ≡ running
  pub kept : Kept r ss xs ps ss' xs' ps'
  pub inside : Within r s
  pub more_states : c.states ≤ r.states
  pub more_arcs : c.arcs ≤ r.arcs

-- there is no room for one
pub record Stuck (sheet : List CoreNode) (s : Space) (c : Counts) (ss : List State) (xs : List Arc) (ps : List Item) (l : Lack) (ss' : List State) (xs' : List Arc) (ps' : List Item) : Type 0 where
  pub room : within (room_in s) (one_step sheet (config_of c ss xs ps)) running ≡ no_room (lacking_of l)
  pub states : ss' ≡ ss
  pub arcs : xs' ≡ xs
  pub pending : ps' ≡ ps

-- a step was made, or there is no room for one
abbrev pub Turned : List CoreNode → Space → Counts → List State → List Arc → List Item → Result Counts Lack → List State → List Arc → List Item → Type 0
Turned sheet s c ss xs ps (Ok r) ss' xs' ps' = Went sheet s c ss xs ps r ss' xs' ps'
Turned sheet s c ss xs ps (Err l) ss' xs' ps' = Stuck sheet s c ss xs ps l ss' xs' ps'

-- as many steps as are allowed
pub record Walked (sheet : List CoreNode) (c : Counts) (ss : List State) (xs : List Arc) (ps : List Item) (allowance : ℕ) (r : Stopped) (ss' : List State) (xs' : List Arc) (ps' : List Item) : Type 0 where
  pub advanced : ◌≡◌ {A = Advanced} (record { config = config_of r.counts ss' xs' ps'; answer = answer_at r.lack r.counts.pending }) (advance sheet (room_in (space_of ss xs ps)) allowance (config_of c ss xs ps))
  pub kept : Kept r.counts ss xs ps ss' xs' ps'
  pub inside : Within r.counts (space_of ss xs ps)
