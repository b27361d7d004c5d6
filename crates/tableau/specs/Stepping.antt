-- What a call of step answers, and what it makes of the lists that it is lent.
use Rattle.std.specs.Prelude.{◌≡◌, ℕ, min, if◌then◌else◌, List, ◌++◌, reverse, length, take, drop, Some, None, Ok, Err, Option, Result, nat_lt}
use Rattle.automata.specs.Steps.{Config, Room, Lacking, Progressed, finished, running, no_room, Advanced, advance, steps as no_steps, states as no_states, arcs as no_arcs, pending as no_pending}
use Rattle.automata.specs.declared.items.Arc.{Arc}
use Rattle.automata.specs.declared.items.Item.{Item}
use Rattle.automata.specs.declared.items.State.{State}
use Rattle.automata.specs.declared.nodes.CoreNode.{CoreNode}
use Rattle.tableau.specs.declared.limits.TheConstants.{MOST_STEPS, MOST_STATES, MOST_ARCS, MOST_PENDING}
use Rattle.tableau.specs.declared.translation.Finished.{Finished as FinishedT}
use Rattle.tableau.specs.declared.fault.LentList.TheVariants.{Sheet, States, Arcs, Pending}
use Rattle.tableau.specs.declared.translation.Lack.{Lack}
use Rattle.tableau.specs.declared.translation.Lack.TheVariants.{Steps as LackSteps, States as LackStates, Arcs as LackArcs, Pending as LackPending}
use Rattle.tableau.specs.declared.translation.Progress.{Progress}
use Rattle.tableau.specs.declared.translation.Progress.TheVariants.{Finished, Running, NoRoom}
use Rattle.tableau.specs.declared.translation.Running.{Running as RunningT}
use Rattle.tableau.specs.declared.translation.Totals.{Totals}
use Rattle.tableau.specs.declared.fault.ShortFault.{ShortFault}
use Rattle.tableau.specs.declared.translation.StepRefused.{StepRefused}

-- the lists that are lent
pub record Lists : Type 0 where
  pub sheet : List CoreNode
  pub states : List State
  pub arcs : List Arc
  pub pending : List Item

-- these four lists
abbrev pub lists : List CoreNode → List State → List Arc → List Item → Lists
lists sheet states arcs pending = record { sheet = sheet; states = states; arcs = arcs; pending = pending }

-- the numbers of a translation: how many core nodes and mark sets there are, the steps since it began,
-- and how many entries of each list are in use
pub record Standing : Type 0 where
  pub cores : ℕ
  pub sets : ℕ
  pub steps : ℕ
  pub states : ℕ
  pub arcs : ℕ
  pub pending : ℕ

-- the numbers of a translation with these totals and so many pending items
abbrev pub standing_with : Totals → ℕ → Standing
standing_with t pending = record { cores = t.cores; sets = t.sets; steps = t.steps; states = t.states; arcs = t.arcs; pending = pending }

-- the numbers of a running translation
abbrev pub standing : RunningT → Standing
standing t = standing_with t.totals t.pending

-- no item is pending of a finished one
abbrev pub ended : FinishedT → Standing
ended t = standing_with t.totals 0

-- what the lists hold: the item put in last has the highest place
abbrev pub config : Standing → Lists → Config
config s l = record {
  steps = s.steps;
  states = take s.states l.states;
  arcs = take s.arcs l.arcs;
  pending = reverse (take s.pending l.pending);
}

-- the numbers of a config
abbrev pub standing_at : Standing → Config → Standing
standing_at s c = record { cores = s.cores; sets = s.sets; steps = c.steps; states = length c.states; arcs = length c.arcs; pending = length c.pending }

-- what there may be: a list's length, and no more than a translation may use of it, which is
-- 4294967295 steps, 1023 states, 8191 arcs and 1024 pending items
abbrev pub room_of : Lists → Room
room_of l = record {
  steps = MOST_STEPS;
  states = min MOST_STATES (length l.states);
  arcs = min MOST_ARCS (length l.arcs);
  pending = min MOST_PENDING (length l.pending);
}

-- the defined steps from what the lists hold, as many as are allowed
abbrev pub advanced_by : ℕ → Standing → Lists → Advanced
advanced_by allowance s l = advance (take s.cores l.sheet) (room_of l) allowance (config s l)

-- the first list that is shorter than what is in use of it, with the length that it needs
abbrev pub short_list : Standing → Lists → Option ShortFault
short_list s l =
    if nat_lt (length l.sheet) s.cores then Some (record { list = Sheet; needed = s.cores })
    else if nat_lt (length l.states) s.states then Some (record { list = States; needed = s.states })
    else if nat_lt (length l.arcs) s.arcs then Some (record { list = Arcs; needed = s.arcs })
    else if nat_lt (length l.pending) s.pending then Some (record { list = Pending; needed = s.pending }) else None

-- ---- the answer: what it says, and the numbers of the translation that comes back
pub data Answer : Type 0 where
  refusal : ShortFault → Standing → Answer
  progress : Progressed → Standing → Answer

-- what lacks, by its name in the code
abbrev pub lacking_of : Lack → Lacking
lacking_of LackSteps = no_steps
lacking_of LackStates = no_states
lacking_of LackArcs = no_arcs
lacking_of LackPending = no_pending

-- what an answer says that is no refusal
abbrev pub progress_told : Progress → Answer
progress_told (Finished t) = progress finished (ended t)
progress_told (Running t) = progress running (standing t)
progress_told (NoRoom t l) = progress (no_room (lacking_of l)) (standing t)

-- what step's answer says
abbrev pub told : Result Progress StepRefused → Answer
told (Ok p) = progress_told p
told (Err e) = refusal e.fault (standing e.translation)

-- ---- the lists after: each entry in use is the config's, and the others of the states and arcs are as before;
-- what stands above the pending items is not told
pub record Written (c : Config) (before after : Lists) : Type 0 where
  pub sheet : after.sheet ≡ before.sheet
  pub states : after.states ≡ c.states ++ drop (length c.states) before.states
  pub arcs : after.arcs ≡ c.arcs ++ drop (length c.arcs) before.arcs
  pub pending : take (length c.pending) after.pending ≡ reverse c.pending
  pub states_long : length after.states ≡ length before.states
  pub arcs_long : length after.arcs ≡ length before.arcs
  pub pending_long : length after.pending ≡ length before.pending

-- a step is refused where a list is too short, and then nothing changes; otherwise it is the defined steps
pub data Steps (s : Standing) (before : Lists) (allowance : ℕ) (answer : Answer) (after : Lists) : Type 0 where
  refused : (fault : ShortFault) → short_list s before ≡ Some fault → answer ≡ refusal fault s → after ≡ before → Steps s before allowance answer after
  stepped : short_list s before ≡ None
      → answer ≡ progress (advanced_by allowance s before).answer (standing_at s (advanced_by allowance s before).config)
      → Written (advanced_by allowance s before).config before after → Steps s before allowance answer after
