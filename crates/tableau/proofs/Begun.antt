-- Which refusal of a begin call stands.
use Rattle.std.proofs.Common.{◌≡◌, ℕ, ◌<◌, ◌≤◌, Bool, true, false, cond, ltb, leb, List, [], ◌∷◌, ◌++◌, length, drop, set, Some, None, Ok, Err, Option, Result, sym, refl, ap, ◌∙◌, subst, arith}
use Rattle.std.proofs.lemmas.Bool.{ltb-false, leb-true, le-leb, lt-leb, cond-true, cond-false}
use Rattle.std.specs.Result.{IsErrAnd}
use Rattle.automata.specs.Sheets.{Written}
use Rattle.automata.specs.Steps.{untils_below}
use Rattle.automata.specs.declared.items.Item.{Item}
use Rattle.automata.specs.declared.nodes.CoreNode.{CoreNode}
use Rattle.automata.proofs.Again.{write_root}
use Rattle.coreform.specs.Forms.{form_at, formed}
use Rattle.coreform.specs.declared.form.FormFault.{FormFault}
use Rattle.coreform.specs.declared.form.FormFault.TheVariants.{NotInBook, TooManyNodes}
use Rattle.rules.specs.declared.node.Node.{Node}
use Rattle.rules.specs.declared.node.Place.{Place}
use Rattle.tableau.specs.Beginning.{cores, untils, short_for, begin_fault, first_item, begun, begins, Begins, refused, begun_at}
use Rattle.tableau.specs.Refusals.{short_of}
use Rattle.tableau.specs.declared.fault.BeginFault.{BeginFault}
use Rattle.tableau.specs.declared.fault.BeginFault.TheVariants.{Form, TooManyUntils, Short}
use Rattle.tableau.specs.declared.fault.LentList.TheVariants.{Sheet, Pending}
use Rattle.tableau.specs.declared.fault.ShortFault.{ShortFault}
use Rattle.tableau.specs.declared.translation.Running.{Running}

-- the first entry of a list
set_first : {X : Type 0} (xs : List X) (y : X) → 0 < length xs → set xs 0 y ≡ y ∷ drop 1 xs
set_first [] y h = absurd (omega arith)
set_first (x ∷ xs) y h = refl

module _ (book : List Node) (place : Place) (sheet : List CoreNode) (pending : List Item) where
  abbrev form : Written
  form = form_at book place

  -- the refusal that stands, by what core_form answers
  abbrev after_form : Result Written FormFault → Option BeginFault
  after_form (Ok w) = cond (leb (untils w) 16) (short_for (cores w) sheet pending) (Some (TooManyUntils (untils w)))
  after_form (Err fault) = Some (Form fault)

  by_form : begin_fault book place sheet pending ≡ after_form (formed book place)
  by_form = go (ltb place.index (length book)) (leb (cores form) 64)
    where
      go : (a b : Bool)
          → cond a (cond b (after_form (Ok form)) (Some (Form TooManyNodes))) (Some (Form (NotInBook place)))
          ≡ after_form (cond a (cond b (Ok form) (Err TooManyNodes)) (Err (NotInBook place)))
      go true true = refl
      go true false = refl
      go false b = refl

  -- a refusal that `?` passes on
  passed_on : (fault : BeginFault) (r : Result Running BeginFault) → begin_fault book place sheet pending ≡ Some fault → IsErrAnd r (λ e. e ≡ fault)
      → Begins book place sheet pending (begins r) sheet pending
  passed_on fault (Ok t) e h = absurd h
  passed_on fault (Err f) e h = refused e (ap Err h) refl refl

  pub no_form : (fault : FormFault) (r : Result Running BeginFault) → Err fault ≡ formed book place → IsErrAnd r (λ e. e ≡ Form fault)
      → Begins book place sheet pending (begins r) sheet pending
  no_form fault r e h = passed_on (Form fault) r (by_form ∙ ap after_form (sym e)) h

  module _ (w : Written) (is : Ok w ≡ formed book place) where
    is_form : (w ≡ form) × (cores w ≤ 64)
    is_form = go (ltb place.index (length book)) (leb (cores form) 64) refl is
      where
        go : (a b : Bool) → leb (cores form) 64 ≡ b → Ok w ≡ cond a (cond b (Ok form) (Err TooManyNodes)) (Err (NotInBook place)) → (w ≡ form) × (cores w ≤ 64)
        go true true q e =
            let i : w ≡ form = cc in
            (i, subst (λ w. cores w ≤ 64) (sym i) (leb-true _ _ q))
        go true false q e = absurd cc
        go false b q e = absurd cc

    -- the number of the whole is one of its nodes
    pub root_few : w.root < 64
    root_few =
        let h = write_root _ [] in
        let r : w.root < cores w = subst (λ w. w.root < cores w) (sym is_form.0) h in
        omega (arith, is_form.1)

    module _ (nodes : List CoreNode) (from : nodes ≡ w.sheet) (n : ℕ) (count : n ≡ untils_below nodes (length nodes)) where
      counted : n ≡ untils w
      counted = count ∙ ap (λ s. untils_below s (length s)) from

      pub too_many : 16 < n → Begins book place sheet pending (Err (TooManyUntils n)) sheet pending
      too_many h =
          let c = counted in
          refused (by_form ∙ ap after_form (sym is) ∙ cond-false _ _ _ (lt-leb (untils w) 16 (omega arith))) (ap (λ n. Err (TooManyUntils n)) c) refl refl

      module _ (few : n ≤ 16) where
        by_lists : begin_fault book place sheet pending ≡ short_for (length nodes) sheet pending
        by_lists =
            let c = counted in
            by_form ∙ ap after_form (sym is) ∙ cond-true _ _ _ (le-leb (untils w) 16 (omega arith)) ∙ ap (λ s. short_for (length s) sheet pending) (sym from)

        pub short_sheet : (fault : ShortFault) (r : Result Running BeginFault) → Some fault ≡ short_of Sheet (length sheet) (length nodes) → IsErrAnd r (λ e. e ≡ Short fault)
            → Begins book place sheet pending (begins r) sheet pending
        short_sheet fault r e h = passed_on (Short fault) r (by_lists ∙ go (ltb (length sheet) (length nodes)) e) h
          where
            go : (t : Bool) → Some fault ≡ cond t (Some (record { list = Sheet; needed = length nodes })) None
                → cond t (Some (Short (record { list = Sheet; needed = length nodes }))) (cond (ltb (length pending) 1) (Some (Short (record { list = Pending; needed = 1 }))) None) ≡ Some (Short fault)
            go true e = cc
            go false e = absurd cc

        module _ (enough : None ≡ short_of Sheet (length sheet) (length nodes)) where
          pub short_pending : (fault : ShortFault) (r : Result Running BeginFault) → Some fault ≡ short_of Pending (length pending) 1 → IsErrAnd r (λ e. e ≡ Short fault)
              → Begins book place sheet pending (begins r) sheet pending
          short_pending fault r e h = passed_on (Short fault) r (by_lists ∙ go (ltb (length sheet) (length nodes)) (ltb (length pending) 1) enough e) h
            where
              go : (s t : Bool) → ◌≡◌ {A = Option ShortFault} None (cond s (Some (record { list = Sheet; needed = length nodes })) None) → Some fault ≡ cond t (Some (record { list = Pending; needed = 1 })) None
                  → cond s (Some (Short (record { list = Sheet; needed = length nodes }))) (cond t (Some (Short (record { list = Pending; needed = 1 }))) None) ≡ Some (Short fault)
              go true t d e = absurd cc
              go false true d e = cc
              go false false d e = absurd cc

          pub has_begun : (front : List CoreNode) (item : Item) → None ≡ short_of Pending (length pending) 1 → front ≡ nodes → item ≡ first_item w.root
              → Begins book place sheet pending (Ok (record { cores = length nodes; sets = n; steps = 0; states = 0; arcs = 0; pending = 1 }))
              (front ++ drop (length nodes) sheet) (set pending 0 item)
          has_begun front item e f i =
              let same = is_form.0 in
              let both = go (ltb (length sheet) (length nodes)) (ltb (length pending) 1) refl enough e in
              begun_at (by_lists ∙ both.0)
              ((λ j. Ok (record { cores = length (from j); sets = counted j; steps = 0; states = 0; arcs = 0; pending = 1 })) ∙ ap (λ w. Ok (begun w)) same)
              (ap (λ s. s ++ drop (length nodes) sheet) f ∙ ap (λ s. s ++ drop (length s) sheet) (from ∙ ap (λ w. w.sheet) same))
              (set_first pending item both.1 ∙ ap (λ x. x ∷ drop 1 pending) (i ∙ ap (λ w. first_item w.root) same))
            where
              go : (s t : Bool) → ltb (length pending) 1 ≡ t → ◌≡◌ {A = Option ShortFault} None (cond s (Some (record { list = Sheet; needed = length nodes })) None)
                  → ◌≡◌ {A = Option ShortFault} None (cond t (Some (record { list = Pending; needed = 1 })) None)
                  → (◌≡◌ {A = Option BeginFault} (cond s (Some (Short (record { list = Sheet; needed = length nodes }))) (cond t (Some (Short (record { list = Pending; needed = 1 }))) None)) None) × (0 < length pending)
              go true t q d e = absurd cc
              go false true q d e = absurd cc
              go false false q d e = (refl, omega (arith, ltb-false _ _ q))
