-- What one step adds, found out before anything is written.
use Rattle.std.specs.Prelude.{◌≡◌, ℕ, ◌+◌, ◌-◌, if◌then◌else◌, ◌&&◌, List, [], ◌++◌, length, ◌==◌, nat_le, Some, None, Option, slice_set}
use Rattle.std.specs.List.{list_any, position}
use Rattle.std.specs.Option.{option_to_list}
use Rattle.automata.specs.Sets.{empty}
use Rattle.automata.specs.Steps.{Config, item, arc, state_of, step_on, is_state, same_arc}
use Rattle.automata.specs.declared.items.Arc.{Arc}
use Rattle.automata.specs.declared.items.Item.{Item}
use Rattle.automata.specs.declared.items.State.{State}
use Rattle.automata.specs.declared.nodes.CoreNode.{CoreNode}
use Rattle.tableau.specs.declared.plans.Plan.{Plan}
use Rattle.tableau.specs.declared.plans.Plan.TheVariants.{Nothing, One, Two, Join, Make}

-- ---- what a plan adds
-- the state that it adds, where it adds one
abbrev pub state_in : Plan → Option State
state_in (Make s a i) = Some s
state_in p = None

-- the arc that it adds, where it adds one
abbrev pub arc_in : Plan → Option Arc
arc_in (Join a) = Some a
arc_in (Make s a i) = Some a
arc_in p = None

-- the states that it adds
abbrev pub new_states : Plan → List State
new_states p = option_to_list (state_in p)

-- the arcs that it adds
abbrev pub new_arcs : Plan → List Arc
new_arcs p = option_to_list (arc_in p)

-- the items that it puts in: one in the place of the item taken out, and one above it, which is to be taken next
abbrev pub items_in : Plan → Option Item × Option Item
items_in (One i) = (Some i, None)
items_in (Two i j) = (Some j, Some i)
items_in (Make s a i) = (Some i, None)
items_in p = (None, None)

-- these as a list, the one to be taken next first
abbrev pub new_items : Plan → List Item
new_items p = option_to_list (items_in p).1 ++ option_to_list (items_in p).0

-- the plan puts these items in, and adds nothing else
pub record Puts (put : List Item) (p : Plan) : Type 0 where
  pub states : new_states p ≡ []
  pub arcs : new_arcs p ≡ []
  pub items : new_items p ≡ put

-- the plan where there is a state with this Old and Next: its arc, unless it is there; one from above the n states counts as absent
abbrev pub join_plan : ℕ → Arc → List Arc → Plan
join_plan n a arcs = if nat_le a.from n && list_any (λ b. same_arc b a) arcs then Nothing else Join a

-- the plan where New is empty, by the place of the state with this Old and Next: an arc to it, or a new state with an arc and an item
abbrev pub settle_plan_at : Option ℕ → List CoreNode → ℕ → List Arc → Item → Plan
settle_plan_at (Some before) sheet n arcs i = join_plan n (arc i.source (before + 1)) arcs
settle_plan_at None sheet n arcs i = Make (state_of sheet i.old i.next) (arc i.source (n + 1)) (item (n + 1) i.next empty empty)

-- the plan where New is empty
abbrev pub settle_plan : List CoreNode → List State → List Arc → Item → Plan
settle_plan sheet states arcs i = settle_plan_at (position (λ s. is_state s i.old i.next) states) sheet (length states) arcs i

-- the config after a plan, with the rest of the pending items
abbrev pub applied : Plan → List Item → Config → Config
applied p rest c = record {
  steps = c.steps + 1;
  states = c.states ++ new_states p;
  arcs = c.arcs ++ new_arcs p;
  pending = new_items p ++ rest;
}

-- the plan does what one step does with the item, whatever else has been made and is pending
abbrev pub DoesStep : List CoreNode → List State → List Arc → Item → Plan → Type 0
DoesStep sheet states arcs i p = (c : Config) (rest : List Item) → c.states ≡ states → c.arcs ≡ arcs → step_on sheet (i.new.bits == 0) i rest c ≡ applied p rest c

-- ---- what a plan writes: into the place after those in use, and from the place of the last item on
-- an entry, where there is one, behind n others
abbrev pub entered_at : {X : Type 0} → Option X → ℕ → List X → List X
entered_at (Some x) n xs = slice_set xs n x
entered_at None n xs = xs

-- n states are in use
abbrev pub states_with : Plan → ℕ → List State → List State
states_with p n xs = entered_at (state_in p) n xs

-- n arcs are in use
abbrev pub arcs_with : Plan → ℕ → List Arc → List Arc
arcs_with p n xs = entered_at (arc_in p) n xs

-- n items are in use; the last of them is the one taken out, and its place is written first
abbrev pub items_with : Plan → ℕ → List Item → List Item
items_with p n xs = entered_at (items_in p).1 n (entered_at (items_in p).0 (n - 1) xs)
