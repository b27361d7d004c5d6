-- Counts of what is in use, and the room there is.
use Rattle.std.specs.Prelude.{◌+◌, ◌-◌, ◌≤◌, if◌then◌else◌, length, Some, None, Option, nat_lt}
use Rattle.tableau.specs.declared.limits.TheConstants.{MOST_STEPS, MOST_STATES, MOST_ARCS, MOST_PENDING}
use Rattle.tableau.specs.Plans.{new_states, new_arcs, new_items}
use Rattle.tableau.specs.declared.plans.Plan.{Plan}
use Rattle.tableau.specs.declared.rooms.Counts.{Counts}
use Rattle.tableau.specs.declared.rooms.Space.{Space}
use Rattle.tableau.specs.declared.translation.Lack.{Lack}
use Rattle.tableau.specs.declared.translation.Lack.TheVariants.{Steps, States, Arcs, Pending}

-- the counts after a plan
abbrev pub counts_with : Plan → Counts → Counts
counts_with p c = record {
  steps = c.steps + 1;
  states = c.states + length (new_states p);
  arcs = c.arcs + length (new_arcs p);
  pending = c.pending - 1 + length (new_items p);
}

-- the first of the four that there would be too much of: over 4294967295 steps, or more of a list than there is room for
abbrev pub lack_of : Plan → Counts → Space → Option Lack
lack_of p c room =
    if nat_lt MOST_STEPS (c.steps + 1) then Some Steps
    else if nat_lt room.states (c.states + length (new_states p)) then Some States
    else if nat_lt room.arcs (c.arcs + length (new_arcs p)) then Some Arcs
    else if nat_lt room.pending (c.pending - 1 + length (new_items p)) then Some Pending else None

-- the counts are within the room, and the room within what a translation may use: 1023 states, 8191 arcs and 1024 pending items
pub record Within (c : Counts) (room : Space) : Type 0 where
  pub states : c.states ≤ room.states
  pub arcs : c.arcs ≤ room.arcs
  pub pending : c.pending ≤ room.pending
  pub few_states : room.states ≤ MOST_STATES
  pub few_arcs : room.arcs ≤ MOST_ARCS
  pub few_pending : room.pending ≤ MOST_PENDING
