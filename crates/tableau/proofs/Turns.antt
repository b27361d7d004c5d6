-- One step over the lists.
use Rattle.std.proofs.Common.{◌≡◌, ◌+◌, ◌-◌, ◌<◌, ◌≤◌, Bool, true, false, cond, ltb, List, ◌++◌, reverse, length, get_or, take, Some, None, Ok, Err, Option, Result, sym, refl, ap, ◌∙◌, subst, arith, length-append}
use Rattle.std.proofs.lemmas.List.{length-take-le, length-reverse}
use Rattle.std.proofs.lemmas.Bool.{ltb-false}
use Rattle.std.specs.Result.{IsErrAnd}
use Rattle.automata.specs.Steps.{Config, Progressed, running, no_room, within, step_with, one_step, steps as no_steps, states as no_states, arcs as no_arcs, pending as no_pending}
use Rattle.automata.specs.declared.items.Arc.{Arc}
use Rattle.automata.specs.declared.items.Item.{Item}
use Rattle.automata.specs.declared.items.State.{State}
use Rattle.automata.specs.declared.nodes.CoreNode.{CoreNode}
use Rattle.tableau.specs.Plans.{DoesStep, state_in, arc_in, new_states, new_arcs, new_items, applied, states_with, arcs_with, items_with}
use Rattle.tableau.specs.Rooms.{counts_with, lack_of, Within}
use Rattle.tableau.specs.Stepping.{lacking_of}
use Rattle.tableau.specs.Walks.{config_of, room_in, Went, Turned}
use Rattle.tableau.specs.declared.plans.Plan.{Plan}
use Rattle.tableau.specs.declared.rooms.Counts.{Counts}
use Rattle.tableau.specs.declared.rooms.Space.{Space}
use Rattle.tableau.specs.declared.translation.Lack.{Lack}
use Rattle.tableau.specs.declared.translation.Lack.TheVariants.{Steps, States, Arcs, Pending}
use Rattle.tableau.proofs.Written.{top, added, items_put, items_long}

verdict : Option Lack → Progressed
verdict None = running
verdict (Some l) = no_room (lacking_of l)

first_lack : (a b c d : Bool)
    → cond a (no_room no_steps) (cond b (no_room no_states) (cond c (no_room no_arcs) (cond d (no_room no_pending) running)))
    ≡ verdict (cond a (Some Steps) (cond b (Some States) (cond c (Some Arcs) (cond d (Some Pending) None))))
unfolding verdict
first_lack true b c d = refl
first_lack false true b c = refl
first_lack false false true d = refl
first_lack false false false true = refl
first_lack false false false false = refl

none_lack : (a b c d : Bool) → None ≡ cond a (Some Steps) (cond b (Some States) (cond c (Some Arcs) (cond d (Some Pending) None)))
    → (a ≡ false) × (b ≡ false) × (c ≡ false) × (d ≡ false)
none_lack true b c d e = absurd cc
none_lack false true c d e = absurd cc
none_lack false false true d e = absurd cc
none_lack false false false true e = absurd cc
none_lack false false false false e = (refl, refl, refl, refl)

-- there is room for the plan
pub record Enough (p : Plan) (c : Counts) (s : Space) : Type 0 where
  pub steps : c.steps < 4294967295
  pub states : c.states + length (new_states p) ≤ s.states
  pub arcs : c.arcs + length (new_arcs p) ≤ s.arcs
  pub pending : c.pending - 1 + length (new_items p) ≤ s.pending

pub enough : (p : Plan) (c : Counts) (s : Space) → None ≡ lack_of p c s → Enough p c s
enough p c s e =
    let n = none_lack (ltb 4294967295 (c.steps + 1)) (ltb s.states (c.states + length (new_states p))) (ltb s.arcs (c.arcs + length (new_arcs p))) (ltb s.pending (c.pending - 1 + length (new_items p))) e in
    record {
      steps = omega (arith, ltb-false 4294967295 (c.steps + 1) n.0);
      states = ltb-false _ _ n.1;
      arcs = ltb-false _ _ n.2;
      pending = ltb-false _ _ n.3;
    }

module _ (sheet : List CoreNode) (s : Space) (c : Counts) (ss : List State) (xs : List Arc) (ps : List Item) (d : Item) (p : Plan)
    (inside : Within c s) (some : 0 < c.pending) (long_s : s.states ≤ length ss) (long_a : s.arcs ≤ length xs) (long_p : s.pending ≤ length ps)
    (is : DoesStep sheet (take c.states ss) (take c.arcs xs) (get_or ps (c.pending - 1) d) p) where
  abbrev before : Config
  before = config_of c ss xs ps

  abbrev left : List Item
  left = reverse (take (c.pending - 1) ps)

  step_is : one_step sheet before ≡ applied p left before
  step_is =
      ap (λ q. step_with sheet q before) (top c.pending ps d some (omega (arith, inside.pending))) ∙ is before left refl refl

  states_count : length (before.states ++ new_states p) ≡ c.states + length (new_states p)
  states_count = length-append before.states (new_states p) ∙ ap (λ n. n + length (new_states p)) (length-take-le c.states ss (omega (arith, inside.states)))

  arcs_count : length (before.arcs ++ new_arcs p) ≡ c.arcs + length (new_arcs p)
  arcs_count = length-append before.arcs (new_arcs p) ∙ ap (λ n. n + length (new_arcs p)) (length-take-le c.arcs xs (omega (arith, inside.arcs)))

  items_count : length (new_items p ++ left) ≡ c.pending - 1 + length (new_items p)
  items_count =
      let l : length left ≡ c.pending - 1 = length-reverse (take (c.pending - 1) ps) ∙ length-take-le (c.pending - 1) ps (omega (arith, inside.pending)) in
      let a = length-append (new_items p) left in
      omega arith

  room_is : (o : Option Lack) → o ≡ lack_of p c s → within (room_in s) (one_step sheet before) running ≡ verdict o
  room_is o e =
      ap (λ k. within (room_in s) k running) step_is
      ∙ (λ j. cond (ltb 4294967295 (c.steps + 1)) (no_room no_steps)
      (cond (ltb s.states (states_count j)) (no_room no_states)
      (cond (ltb s.arcs (arcs_count j)) (no_room no_arcs)
      (cond (ltb s.pending (items_count j)) (no_room no_pending) running))))
      ∙ first_lack (ltb 4294967295 (c.steps + 1)) (ltb s.states (c.states + length (new_states p))) (ltb s.arcs (c.arcs + length (new_arcs p))) (ltb s.pending (c.pending - 1 + length (new_items p)))
      ∙ ap verdict (sym e)

  -- a lack that `?` passes on
  pub stuck : (l : Lack) (r : Result Counts Lack) → Some l ≡ lack_of p c s → IsErrAnd r (λ m. m ≡ l) → Turned sheet s c ss xs ps r ss xs ps
  unfolding verdict
  stuck l (Ok r) e h = absurd h
  stuck l (Err m) e h = record { room = room_is (Some m) (ap (λ l. Some l) h ∙ e); states = refl; arcs = refl; pending = refl }

  pub went : None ≡ lack_of p c s → (r : Counts) (ss' : List State) (xs' : List Arc) (ps' : List Item)
      → r ≡ counts_with p c → ss' ≡ states_with p c.states ss → xs' ≡ arcs_with p c.arcs xs → ps' ≡ items_with p c.pending ps
      → Went sheet s c ss xs ps r ss' xs' ps'
  unfolding verdict
  went e r ss' xs' ps' er es ex ep =
      let n = enough p c s e in
      let sa = added (state_in p) c.states ss (omega (arith, n.states)) in
      let xa = added (arc_in p) c.arcs xs (omega (arith, n.arcs)) in
      let pa = items_put p c.pending ps some (omega (arith, n.pending)) in
      let r' = counts_with p c in
      let start : Went sheet s c ss xs ps r' (states_with p c.states ss) (arcs_with p c.arcs xs) (items_with p c.pending ps) = record {
        config = (λ j. record { steps = c.steps + 1; states = sa.front j; arcs = xa.front j; pending = pa j }) ∙ sym step_is;
        room = room_is None e;
        kept = record { states = sa.rest; arcs = xa.rest; long_states = sa.long; long_arcs = xa.long; long_pending = items_long p c.pending ps };
        inside = record { states = n.states; arcs = n.arcs; pending = n.pending; few_states = inside.few_states; few_arcs = inside.few_arcs; few_pending = inside.few_pending };
        more_states = omega arith;
        more_arcs = omega arith;
      } in
      subst (λ r. Went sheet s c ss xs ps r ss' xs' ps') (sym er)
      (subst (λ z. Went sheet s c ss xs ps r' z xs' ps') (sym es)
      (subst (λ z. Went sheet s c ss xs ps r' (states_with p c.states ss) z ps') (sym ex)
      (subst (λ z. Went sheet s c ss xs ps r' (states_with p c.states ss) (arcs_with p c.arcs xs) z) (sym ep) start)))
