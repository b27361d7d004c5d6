-- The steps of a recipe, one after the other, on a draft.
use Rattle.std.proofs.Common.{◌≡◌, ℕ, ◌+◌, ◌-◌, ◌<◌, ◌≤◌, Bool, List, [], ◌∷◌, ◌++◌, length, get_or, drop, sym, refl, ap, ◌∙◌, arith}
use Rattle.std.proofs.lemmas.List.{drop_more, at_drop_all}
use Rattle.automata.specs.Cores.{Core, core_of}
use Rattle.automata.specs.Sheets.{write}
use Rattle.automata.specs.declared.nodes.CoreNode.{CoreNode}
use Rattle.automata.proofs.Again.{Begins, begins_long, put_begins, write_begins}
use Rattle.coreform.specs.Recipes.{node_over, stepped, made, recipe_of}
use Rattle.coreform.specs.declared.recipe.Step.{Step}
use Rattle.coreform.specs.declared.recipe.Step.TheVariants.{Write, Put}
use Rattle.coreform.proofs.Right.{written, recipe_right, writes_lower}
use Rattle.rules.specs.Tables.{Ordered}
use Rattle.rules.specs.declared.node.Node.{Node}
use Rattle.rules.specs.declared.node.Node.TheVariants.{True}
use Rattle.rules.specs.declared.node.Place.{Place}
use Rattle.semantics.specs.Rules.{Rule, rule_at}
use Rattle.semantics.proofs.Places.{rule_opens}

-- the recipe of the node at a place of a book
module _ (book nodes : List Node) (ordered : Ordered book) (same : nodes ≡ book) (k : ℕ) (inside : k < length book) (p : Bool) (steps : List Step) (are : steps ≡ recipe_of (get_or nodes k True) p) where
  are_here : steps ≡ recipe_of (get_or book k True) p
  are_here = are ∙ ap (λ ns. recipe_of (get_or ns k True) p) same

  -- writes the core form of the rule there
  pub recipe_writes : (sheet : List CoreNode) → written steps (made (rule_at book) steps [] sheet) ≡ write (core_of (rule_at book k) p) sheet
  recipe_writes sheet =
      ap (λ ss. written ss (made (rule_at book) ss [] sheet)) are_here
      ∙ recipe_right (rule_at book) sheet (get_or book k True) p
      ∙ ap (λ r. write (core_of r p) sheet) (sym (rule_opens book ordered k (get_or book k True) (inside, refl)))

  -- and asks for lower places only
  pub recipe_lower : (i : ℕ) (d : Step) (a : Place) (q : Bool) → i < length steps → get_or steps i d ≡ Write a q → a.index < k
  recipe_lower i d a q l e = writes_lower k (get_or book k True) p (ordered k inside) i d a q (omega (arith, ap length are_here)) (sym (ap (λ ss. get_or ss i d) are_here) ∙ e)

module _ (rule : ℕ → Rule) where
  -- the sheet only grows
  stepped_begins : (s : Step) (ns : List ℕ) (sheet : List CoreNode) → Begins sheet (stepped rule s ns sheet).sheet
  stepped_begins (Write a p) ns sheet = write_begins (core_of (rule a.index) p) sheet
  stepped_begins (Put node) ns sheet = put_begins (node_over node ns) sheet

  made_long : (ss : List Step) (ns : List ℕ) (sheet : List CoreNode) → length sheet ≤ length (made rule ss ns sheet).sheet
  made_long [] ns sheet = omega arith
  made_long (s ∷ ss) ns sheet = let w = stepped rule s ns sheet in omega (arith, begins_long _ _ (stepped_begins s ns sheet), made_long ss (ns ++ w.root ∷ []) w.sheet)

  module _ (steps : List Step) (before : List CoreNode) where
    -- what is left to make from this step on comes to the whole
    abbrev pub Reached : ℕ → List ℕ → List CoreNode → Type 0
    Reached at list draft = made rule (drop at steps) list draft ≡ made rule steps [] before

    module _ (at : ℕ) (list : List ℕ) (draft : List CoreNode) (reached : Reached at list draft) where
      -- where no step is left, all of them are made
      pub reached_end : length steps ≤ at → length list ≡ length steps → written steps (made rule steps [] before) ≡ record { sheet = draft; root = get_or list (length list - 1) 0 }
      reached_end over last =
          ap (written steps) (sym reached ∙ at_drop_all (λ ss. made rule ss list draft) steps at over)
          ∙ ap (λ k. record { sheet = draft; root = get_or list (k - 1) 0 }) (sym last)

      module _ (d : Step) (inside : at < length steps) where
        abbrev s : Step
        s = get_or steps at d

        from_here : made rule (s ∷ drop (at + 1) steps) list draft ≡ made rule steps [] before
        from_here = ap (λ ss. made rule ss list draft) (sym (drop_more steps at d inside)) ∙ reached

        -- one step more
        pub reached_more : (draft' : List CoreNode) (r : ℕ) → stepped rule s list draft ≡ record { sheet = draft'; root = r } → Reached (at + 1) (list ++ r ∷ []) draft'
        reached_more draft' r e = sym (ap (λ w. made rule (drop (at + 1) steps) (list ++ w.root ∷ []) w.sheet) e) ∙ from_here

        -- where a step has no room, neither has the whole
        pub too_long : (c : Core) → written steps (made rule steps [] before) ≡ write c before → (n : ℕ) → n < length (stepped rule s list draft).sheet → n < length (write c before).sheet
        too_long c whole n h =
            let w = stepped rule s list draft in
            omega (arith, made_long (drop (at + 1) steps) (list ++ w.root ∷ []) w.sheet, ap (λ m. length m.sheet) from_here, ap (λ v. length v.sheet) whole)
