-- The defined steps come to one end, by whatever allowances they are made.
use Rattle.std.proofs.Common.{◌≡◌, ℕ, zero, suc, ◌+◌, ◌-◌, Bool, true, false, ◌⊎◌, List, [], ◌∷◌, sym, refl, ap, ◌∙◌, inl, inr, add-zero, add-suc, arith}
use Rattle.std.proofs.Math.Decide.{dec_le}
use Rattle.automata.specs.Steps.{Config, settle, step_on, step_with, one_step, after, Room, Progressed, finished, running, no_room, within, Advanced, unless_lacking, unless_finished, advance}
use Rattle.automata.specs.declared.items.Item.{Item}
use Rattle.automata.specs.declared.nodes.CoreNode.{CoreNode}

-- ---- each step counts as one
settle_counts : (b : Bool) (sheet : List CoreNode) (i : Item) (rest : List Item) (c : Config) → (settle b sheet i rest c).steps ≡ suc c.steps
settle_counts true sheet i rest c = omega arith
settle_counts false sheet i rest c = omega arith

on_counts : (b : Bool) (sheet : List CoreNode) (i : Item) (rest : List Item) (c : Config) → (step_on sheet b i rest c).steps ≡ suc c.steps
on_counts true sheet i rest c = settle_counts _ sheet i rest c
on_counts false sheet i rest c = omega arith

step_counts : (sheet : List CoreNode) (items : List Item) (c : Config) → (step_with sheet items c ≡ c) ⊎ ((step_with sheet items c).steps ≡ suc c.steps)
step_counts sheet [] c = inl refl
step_counts sheet (i ∷ rest) c = inr (on_counts _ sheet i rest c)

-- where nothing is pending, a step does nothing
idle : (sheet : List CoreNode) (c : Config) → c.pending ≡ [] → one_step sheet c ≡ c
idle sheet c e = ap (λ items. step_with sheet items c) e

module _ (sheet : List CoreNode) (root : ℕ) where
  -- a config is the one after its own count of steps
  pub by_steps : (n : ℕ) → after sheet root (after sheet root n).steps ≡ after sheet root n
  unfolding after
  by_steps zero = refl
  by_steps (suc n) = elim (step_counts sheet (after sheet root n).pending (after sheet root n)) [
    | inl e ↦ ap (λ c. after sheet root c.steps) e ∙ by_steps n ∙ sym e
    | inr e ↦ ap (after sheet root) e ∙ ap (one_step sheet) (by_steps n)
  ]

  stuck : (n d : ℕ) → (after sheet root n).pending ≡ [] → after sheet root (n + d) ≡ after sheet root n
  unfolding after
  stuck n zero e = ap (after sheet root) (add-zero n)
  stuck n (suc d) e = ap (after sheet root) (add-suc n d) ∙ ap (one_step sheet) (stuck n d e) ∙ idle sheet (after sheet root n) e

  -- there is one config in which nothing is pending
  pub one_end : (n k : ℕ) → (after sheet root n).pending ≡ [] → (after sheet root k).pending ≡ [] → after sheet root n ≡ after sheet root k
  one_end n k p q = elim (dec_le n k) [
    | yes h ↦ let e : k ≡ n + (k - n) = omega arith in sym (ap (after sheet root) e ∙ stuck n (k - n) p)
    | no h ↦ let e : n ≡ k + (n - k) = omega arith in ap (after sheet root) e ∙ stuck k (n - k) q
  ]

  -- nothing is pending where the answer is finished
  abbrev pub Ended : Progressed → Config → Type 0
  Ended finished c = c.pending ≡ []
  Ended running c = Unit {0}
  Ended (no_room l) c = Unit {0}

  -- what comes of a call is what some number of defined steps makes
  pub record Went (a : Advanced) : Type 0 where
    pub time : ℕ
    pub is : a.config ≡ after sheet root time
    pub ended : Ended a.answer a.config

  finish : (items : List Item) (c : Config) (a : Advanced) → items ≡ c.pending → (t : ℕ) → c ≡ after sheet root t → Went a → Went (unless_finished items c a)
  finish [] c a e t i more = record { time = t; is = i; ended = sym e }
  finish (x ∷ items) c a e t i more = more

  pub went : (room : Room) (n : ℕ) (c : Config) (t : ℕ) → c ≡ after sheet root t → Went (advance sheet room n c)
  unfolding advance
  went room zero c t i = finish c.pending c _ refl t i (record { time = t; is = i; ended = tt })
  went room (suc n) c t i = finish c.pending c _ refl t i (go (within room (one_step sheet c) running) (went room n (one_step sheet c) (suc t) (unfold after in ap (one_step sheet) i)))
    where
      go : (a : Progressed) → Went (advance sheet room n (one_step sheet c)) → Went (unless_lacking a c (advance sheet room n (one_step sheet c)))
      go finished g = g
      go running g = g
      go (no_room k) g = record { time = t; is = i; ended = tt }
