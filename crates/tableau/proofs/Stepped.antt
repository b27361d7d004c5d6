-- The steps made, as the call tells of them.
use Rattle.std.proofs.Common.{◌≡◌, ℕ, ◌≤◌, List, ◌++◌, length, take, drop, None, sym, refl, ap, ◌∙◌, subst, arith}
use Rattle.std.proofs.lemmas.List.{reverse-reverse, length-take-le, length-reverse, take-append-drop}
use Rattle.automata.specs.Steps.{Config}
use Rattle.automata.specs.declared.items.Arc.{Arc}
use Rattle.automata.specs.declared.items.Item.{Item}
use Rattle.automata.specs.declared.items.State.{State}
use Rattle.tableau.specs.Ends.{stopped_told}
use Rattle.tableau.specs.Stepping.{Lists, lists, Standing, standing_at, advanced_by, short_list, Answer, progress, Written, Steps, stepped}
use Rattle.tableau.specs.Walks.{config_of, answer_at, Walked}
use Rattle.tableau.specs.declared.rooms.Counts.{Counts}
use Rattle.tableau.specs.declared.walks.Stopped.{Stopped}

-- the numbers from which the steps begin
abbrev pub from : Standing → Counts
from s = record { steps = s.steps; states = s.states; arcs = s.arcs; pending = s.pending }

-- a list is its first entries, and after them the old ones
over : {X : Type 0} (n : ℕ) (old new : List X) → n ≤ length new → drop n new ≡ drop n old → new ≡ take n new ++ drop (length (take n new)) old
over n old new h e =
    let l = length-take-le n new h in
    sym (take-append-drop n new) ∙ (λ j. take n new ++ e j) ∙ ap (λ k. take n new ++ drop k old) (sym l)

module _ (s : Standing) (l : Lists) (n : ℕ) (w : Stopped) (ss : List State) (xs : List Arc) (ps : List Item)
    (walked : Walked (take s.cores l.sheet) (from s) l.states l.arcs l.pending n w ss xs ps) where
  abbrev made : Config
  made = config_of w.counts ss xs ps

  states_fit : w.counts.states ≤ length ss
  states_fit = let i = walked.inside in let k = walked.kept in omega arith

  arcs_fit : w.counts.arcs ≤ length xs
  arcs_fit = let i = walked.inside in let k = walked.kept in omega arith

  pending_fit : w.counts.pending ≤ length ps
  pending_fit = let i = walked.inside in let k = walked.kept in omega arith

  pending_count : length made.pending ≡ w.counts.pending
  pending_count = length-reverse (take w.counts.pending ps) ∙ length-take-le w.counts.pending ps pending_fit

  told_is : stopped_told s.cores s.sets w ≡ progress (advanced_by n s l).answer (standing_at s (advanced_by n s l).config)
  told_is =
      let a = sym (length-take-le w.counts.states ss states_fit) in
      let b = sym (length-take-le w.counts.arcs xs arcs_fit) in
      let c = sym pending_count in
      (λ j. progress (answer_at w.lack w.counts.pending) (record { cores = s.cores; sets = s.sets; steps = w.counts.steps; states = a j; arcs = b j; pending = c j }))
      ∙ (λ j. progress (walked.advanced j).answer (standing_at s (walked.advanced j).config))

  written_is : Written made l (lists l.sheet ss xs ps)
  written_is =
      let k = walked.kept in
      record {
        sheet = refl;
        states = over w.counts.states l.states ss states_fit k.states;
        arcs = over w.counts.arcs l.arcs xs arcs_fit k.arcs;
        pending = ap (λ m. take m ps) pending_count ∙ sym (reverse-reverse (take w.counts.pending ps));
        states_long = k.long_states;
        arcs_long = k.long_arcs;
        pending_long = k.long_pending;
      }

  pub steps_are : None ≡ short_list s l → (a : Answer) → a ≡ stopped_told s.cores s.sets w → Steps s l n a (lists l.sheet ss xs ps)
  steps_are e a f = stepped (sym e) (f ∙ told_is) (subst (λ c. Written c l (lists l.sheet ss xs ps)) (λ j. (walked.advanced j).config) written_is)
