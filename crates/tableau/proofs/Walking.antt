-- Step after step over the lists.
use Rattle.std.proofs.Common.{◌≡◌, ℕ, zero, suc, ◌+◌, ◌-◌, ◌<◌, ◌≤◌, Bool, true, false, cond, eqb, List, [], ◌∷◌, reverse, length, take, drop, Some, None, Option, sym, refl, ap, ◌∙◌, subst, arith}
use Rattle.std.proofs.lemmas.List.{drop-drop}
use Rattle.std.proofs.lemmas.Bool.{eqb-true, eqb-false}
use Rattle.automata.specs.Sets.{empty}
use Rattle.automata.specs.Steps.{Config, item, Room, Progressed, finished, running, Advanced, within, unless_lacking, unless_finished, one_step, advance}
use Rattle.automata.specs.declared.items.Arc.{Arc}
use Rattle.automata.specs.declared.items.Item.{Item}
use Rattle.automata.specs.declared.items.State.{State}
use Rattle.automata.specs.declared.nodes.CoreNode.{CoreNode}
use Rattle.tableau.specs.Rooms.{Within}
use Rattle.tableau.specs.Walks.{config_of, space_of, room_in, answer_at, Kept, Went, Stuck, Walked}
use Rattle.tableau.specs.declared.rooms.Counts.{Counts}
use Rattle.tableau.specs.declared.rooms.Space.{Space}
use Rattle.tableau.specs.declared.translation.Lack.{Lack}
use Rattle.tableau.proofs.Written.{top}

-- what is read past the end
abbrev pub none : Item
none = item 0 empty empty empty

abbrev stop : Config → Progressed → Advanced
stop c a = record { config = c; answer = a }

module _ (sheet : List CoreNode) (room : Room) (c : Config) where
  advance_done : (left : ℕ) → c.pending ≡ [] → stop c finished ≡ advance sheet room left c
  unfolding advance
  advance_done zero e = sym (ap (λ p. unless_finished p c (stop c running)) e)
  advance_done (suc k) e = sym (ap (λ p. unless_finished p c (unless_lacking (within room (one_step sheet c) running) c (advance sheet room k (one_step sheet c)))) e)

  advance_spent : (i : Item) (rest : List Item) → c.pending ≡ i ∷ rest → stop c running ≡ advance sheet room 0 c
  unfolding advance
  advance_spent i rest e = sym (ap (λ p. unless_finished p c (stop c running)) e)

  advance_on : (left : ℕ) (a : Progressed) (i : Item) (rest : List Item) → 0 < left → c.pending ≡ i ∷ rest → within room (one_step sheet c) running ≡ a
      → unless_lacking a c (advance sheet room (left - 1) (one_step sheet c)) ≡ advance sheet room left c
  unfolding advance
  advance_on zero a i rest some e f = absurd (omega arith)
  advance_on (suc k) a i rest some e f =
      let o : suc k - 1 ≡ k = omega arith in
      ap (λ n. unless_lacking a c (advance sheet room n (one_step sheet c))) o
      ∙ ap (λ a. unless_lacking a c (advance sheet room k (one_step sheet c))) (sym f)
      ∙ sym (ap (λ p. unless_finished p c (unless_lacking (within room (one_step sheet c) running) c (advance sheet room k (one_step sheet c)))) e)

kept_later : {X : Type 0} (m n : ℕ) (old new : List X) → m ≤ n → drop m new ≡ drop m old → drop n new ≡ drop n old
kept_later m n old new h k =
    let e : m + (n - m) ≡ n = omega arith in
    subst (λ j. drop j new ≡ drop j old) e (sym (drop-drop (n - m) m new) ∙ ap (drop (n - m)) k ∙ drop-drop (n - m) m old)

-- where the steps have come to, when so many were made
pub record Going (sheet : List CoreNode) (start : Counts) (ss : List State) (xs : List Arc) (ps : List Item) (allowance : ℕ) (c : Counts) (ss' : List State) (xs' : List Arc) (ps' : List Item) (made : ℕ) : Type 0 where
  pub same : advance sheet (room_in (space_of ss xs ps)) (allowance - made) (config_of c ss' xs' ps') ≡ advance sheet (room_in (space_of ss xs ps)) allowance (config_of start ss xs ps)
  pub kept : Kept c ss xs ps ss' xs' ps'
  pub inside : Within c (space_of ss xs ps)

module _ {sheet : List CoreNode} {start : Counts} {ss : List State} {xs : List Arc} {ps : List Item} {allowance : ℕ} {c : Counts} {ss' : List State} {xs' : List Arc} {ps' : List Item} {made : ℕ}
    (g : Going sheet start ss xs ps allowance c ss' xs' ps' made) where
  abbrev here : Config
  here = config_of c ss' xs' ps'

  abbrev space : Space
  space = space_of ss xs ps

  stopped : (l : Option Lack) → stop here (answer_at l c.pending) ≡ advance sheet (room_in space) (allowance - made) here → Walked sheet start ss xs ps allowance (record { counts = c; lack = l }) ss' xs' ps'
  stopped l e = record { advanced = e ∙ g.same; kept = g.kept; inside = g.inside }

  pub done : c.pending ≡ 0 → Walked sheet start ss xs ps allowance (record { counts = c; lack = None }) ss' xs' ps'
  done e = stopped None (ap (λ n. stop here (answer_at None n)) e ∙ advance_done sheet (room_in space) here (allowance - made) (ap (λ n. reverse (take n ps')) e))

  fits : c.pending ≤ length ps'
  fits = let w = g.inside in let k = g.kept in omega arith

  pub spent : allowance - made ≡ 0 → Walked sheet start ss xs ps allowance (record { counts = c; lack = None }) ss' xs' ps'
  spent e = go (eqb c.pending 0) refl
    where
      go : (b : Bool) → eqb c.pending 0 ≡ b → Walked sheet start ss xs ps allowance (record { counts = c; lack = None }) ss' xs' ps'
      go true t = done (eqb-true c.pending 0 t)
      go false t =
          let ne : c.pending ≡ 0 → ⊥ = eqb-false c.pending 0 t in
          stopped None
          (ap (λ b. stop here (cond b finished running)) t
          ∙ advance_spent sheet (room_in space) here _ _ (top c.pending ps' none (omega arith) fits)
          ∙ ap (λ n. advance sheet (room_in space) n here) (sym e))

  -- a loop's space is the space at its start
  pub no_room_here : (s : Space) (l : Lack) (ss'' : List State) (xs'' : List Arc) (ps'' : List Item) → made < allowance → 0 < c.pending → s ≡ space
      → Stuck sheet s c ss' xs' ps' l ss'' xs'' ps'' → Walked sheet start ss xs ps allowance (record { counts = c; lack = Some l }) ss'' xs'' ps''
  no_room_here s l ss'' xs'' ps'' some more is t =
      let w = stopped (Some l) (advance_on sheet (room_in space) here (allowance - made) _ _ _ (omega arith) (top c.pending ps' none more fits) (ap (λ s. within (room_in s) (one_step sheet here) running) (sym is) ∙ t.room)) in
      subst (λ z. Walked sheet start ss xs ps allowance (record { counts = c; lack = Some l }) z xs'' ps'') (sym t.states)
      (subst (λ z. Walked sheet start ss xs ps allowance (record { counts = c; lack = Some l }) ss' z ps'') (sym t.arcs)
      (subst (λ z. Walked sheet start ss xs ps allowance (record { counts = c; lack = Some l }) ss' xs' z) (sym t.pending) w))

  pub one_more : (s : Space) (r : Counts) (ss'' : List State) (xs'' : List Arc) (ps'' : List Item) → made < allowance → 0 < c.pending → s ≡ space
      → Went sheet s c ss' xs' ps' r ss'' xs'' ps'' → Going sheet start ss xs ps allowance r ss'' xs'' ps'' (made + 1)
  one_more s r ss'' xs'' ps'' some more is t =
      let k = g.kept in
      let k' = t.kept in
      let less : allowance - (made + 1) ≡ allowance - made - 1 = omega arith in
      record {
        same =
            ap (λ n. advance sheet (room_in space) n (config_of r ss'' xs'' ps'')) less
            ∙ ap (advance sheet (room_in space) (allowance - made - 1)) t.config
            ∙ advance_on sheet (room_in space) here (allowance - made) _ _ _ (omega arith) (top c.pending ps' none more fits) (ap (λ s. within (room_in s) (one_step sheet here) running) (sym is) ∙ t.room)
            ∙ g.same;
        kept = record {
          states = k'.states ∙ kept_later c.states r.states ss ss' t.more_states k.states;
          arcs = k'.arcs ∙ kept_later c.arcs r.arcs xs xs' t.more_arcs k.arcs;
          long_states = k'.long_states ∙ k.long_states;
          long_arcs = k'.long_arcs ∙ k.long_arcs;
          long_pending = k'.long_pending ∙ k.long_pending;
        };
        inside = subst (Within r) is t.inside;
      }
