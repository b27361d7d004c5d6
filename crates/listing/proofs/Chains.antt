-- A call of step that answers running has made all its steps, and the lists are long enough for the next.
use Rattle.std.proofs.Common.{◌≡◌, ℕ, zero, suc, ◌+◌, ◌<◌, ◌≤◌, Bool, true, false, cond, eqb, ltb, List, [], ◌∷◌, ◌++◌, length, Some, None, Err, Option, Result, sym, refl, ap, ◌∙◌, subst, arith, length-append, length-take, ltb-false, le-ltb}
use Rattle.std.proofs.lemmas.List.{length-reverse}
use Rattle.automata.specs.Steps.{Config, Room, Progressed, finished, running, no_room, Advanced, settle, step_on, step_with, one_step, within, unless_lacking, unless_finished, advance}
use Rattle.automata.specs.Steps.{steps as no_steps}
use Rattle.automata.specs.declared.items.Item.{Item}
use Rattle.automata.specs.declared.nodes.CoreNode.{CoreNode}
use Rattle.rules.specs.declared.node.Node.{Node}
use Rattle.tableau.specs.Stepping.{Lists, Standing, standing_at, advanced_by, room_of, short_list, progress, Steps, refused, stepped}
use Rattle.tableau.specs.declared.fault.ShortFault.{ShortFault}
use Rattle.rules.specs.HandedBack.{told, HandsBack}
use Rattle.rules.specs.Reading.{Reads}
use Rattle.rules.specs.declared.reading.ReadFault.{ReadFault}
use Rattle.rules.specs.declared.reading.ReadFault.TheVariants.{FileSize, Command as AtCommand}
use Rattle.listing.specs.Listing.{Listing, unread}
use Rattle.listing.specs.Refusals.{Sized}
use Rattle.std.proofs.lemmas.Option.{none-some}
use Rattle.rules.specs.Refusals.{file_fault}
use Rattle.listing.specs.declared.fault.ListFault.{ListFault}
use Rattle.listing.specs.declared.fault.ListFault.TheVariants.{Read}
use Rattle.listing.specs.declared.outcome.Listed.{Listed}

-- ---- the steps made
settle_steps : (b : Bool) (sheet : List CoreNode) (i : Item) (rest : List Item) (c : Config) → (settle b sheet i rest c).steps ≡ c.steps + 1
settle_steps true sheet i rest c = refl
settle_steps false sheet i rest c = refl

step_steps : (b : Bool) (sheet : List CoreNode) (i : Item) (rest : List Item) (c : Config) → (step_on sheet b i rest c).steps ≡ c.steps + 1
step_steps true sheet i rest c = settle_steps _ sheet i rest c
step_steps false sheet i rest c = refl

with_steps : (sheet : List CoreNode) (items : List Item) (c : Config) → 0 < length items → (step_with sheet items c).steps ≡ c.steps + 1
with_steps sheet [] c h = omega (arith, h)
with_steps sheet (i ∷ rest) c h = step_steps (eqb i.new.bits 0) sheet i rest c

past_end : (items : List Item) (c : Config) (more : Advanced) → (unless_finished items c more).answer ≡ running → (unless_finished items c more ≡ more) × (0 < length items)
past_end [] c more e = cc
past_end (i ∷ rest) c more e = (refl, omega arith)

past_lack : (p : Progressed) (c : Config) (more : Advanced) → (unless_lacking p c more).answer ≡ running → unless_lacking p c more ≡ more
past_lack finished c more e = refl
past_lack running c more e = refl
past_lack (no_room l) c more e = cc

running_steps : (sheet : List CoreNode) (room : Room) (n : ℕ) (c : Config) → (advance sheet room n c).answer ≡ running → (advance sheet room n c).config.steps ≡ c.steps + n
unfolding advance
running_steps sheet room zero c e =
    let p = past_end c.pending c (record { config = c; answer = running }) e in
    ap (λ a. a.config.steps) p.0 ∙ omega arith
running_steps sheet room (suc n) c e =
    let next = one_step sheet c in
    let more = advance sheet room n next in
    let p = past_end c.pending c (unless_lacking (within room next running) c more) e in
    let e' : (unless_lacking (within room next running) c more).answer ≡ running = sym (ap (λ a. a.answer) p.0) ∙ e in
    let q = past_lack (within room next running) c more e' in
    let more_runs : more.answer ≡ running = sym (ap (λ a. a.answer) q) ∙ e' in
    let made = running_steps sheet room n next more_runs in
    let one = with_steps sheet c.pending c p.1 in
    ap (λ a. a.config.steps) (p.0 ∙ q) ∙ made ∙ omega (arith, one)

-- the first step was within the room
within_room : (b : Bool) (x : Progressed) (c : Config) (more : Advanced) → (unless_lacking (cond b (no_room no_steps) x) c more).answer ≡ running → b ≡ false
within_room true x c more e = cc
within_room false x c more e = refl

running_few : (sheet : List CoreNode) (room : Room) (n : ℕ) (c : Config) → (advance sheet room (suc n) c).answer ≡ running → c.steps < room.steps
unfolding advance
running_few sheet room n c e =
    let next = one_step sheet c in
    let more = advance sheet room n next in
    let p = past_end c.pending c (unless_lacking (within room next running) c more) e in
    let e' : (unless_lacking (within room next running) c more).answer ≡ running = sym (ap (λ a. a.answer) p.0) ∙ e in
    let b = within_room (ltb room.steps next.steps) _ c more e' in
    omega (arith, ltb-false room.steps next.steps b, with_steps sheet c.pending c p.1)

-- ---- the lists are long enough
pub record Long (s : Standing) (l : Lists) : Type 0 where
  pub sheet : s.cores ≤ length l.sheet
  pub states : s.states ≤ length l.states
  pub arcs : s.arcs ≤ length l.arcs
  pub pending : s.pending ≤ length l.pending

pub long_none : (s : Standing) (l : Lists) → Long s l → short_list s l ≡ None
long_none s l h =
    simp (le-ltb (length l.sheet) s.cores h.sheet, le-ltb (length l.states) s.states h.states, le-ltb (length l.arcs) s.arcs h.arcs, le-ltb (length l.pending) s.pending h.pending)

none_sheet : (s : Standing) (l : Lists) → short_list s l ≡ None → s.cores ≤ length l.sheet
none_sheet s l e = go (ltb (length l.sheet) s.cores) refl _ _ e
  where
    go : (b : Bool) → ltb (length l.sheet) s.cores ≡ b → (f : ShortFault) (o : Option ShortFault) → cond b (Some f) o ≡ None → s.cores ≤ length l.sheet
    go true p f o e = absurd (none-some f (sym e))
    go false p f o e = ltb-false _ _ p

over_long : {X : Type 0} (xs ys zs : List X) → zs ≡ xs ++ ys → length xs ≤ length zs
over_long xs ys zs e = omega (arith, ap length e, length-append xs ys)

pub record Goes (s s' : Standing) (after : Lists) : Type 0 where
  pub long : short_list s' after ≡ None
  pub steps : s'.steps ≡ s.steps + 65535
  pub few : s.steps < 4294967295

pub running_goes : (s s' : Standing) (before after : Lists) → short_list s before ≡ None → Steps s before 65535 (progress running s') after → Goes s s' after
running_goes s s' before after h (refused fault e f g) = cc
running_goes s s' before after h (stepped e f w) =
    let made = advanced_by 65535 s before in
    let ran : running ≡ made.answer = cc in
    let t : s' ≡ standing_at s made.config = cc in
    let long : Long (standing_at s made.config) after = record {
      sheet = omega (arith, none_sheet s before h, ap length w.sheet);
      states = over_long made.config.states _ after.states w.states;
      arcs = over_long made.config.arcs _ after.arcs w.arcs;
      pending = omega (arith, length-take (length made.config.pending) after.pending, ap length w.pending, length-reverse made.config.pending);
    } in
    record {
      long = ap (λ x. short_list x after) t ∙ long_none (standing_at s made.config) after long;
      steps = ap (λ x. x.steps) t ∙ running_steps _ _ 65535 _ (sym ran);
      few = running_few _ (room_of before) 65534 _ (sym ran);
    }

-- ---- a refused file
sized : (file : List ℕ) (fault : ReadFault) → HandsBack file fault → Sized file (file_fault fault)
sized file (FileSize rest) h = ap length h
sized file (AtCommand c) h = tt

pub unread_as : (file : List ℕ) (before : Lists) (fault : ReadFault) (empty book : List Node) → empty ≡ []
    → Reads empty file (told (Err fault)) book → HandsBack file fault
    → (answer : Result Listed ListFault) → answer ≡ Err (Read (file_fault fault)) → Listing file before answer before
unread_as file before fault empty book e r h answer is =
    unread (subst (λ b. Reads b file (told (Err fault)) book) e r) (sized file fault h) is refl
