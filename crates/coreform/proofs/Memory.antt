-- What is remembered stays right.
use Rattle.std.proofs.Common.{◌≡◌, ℕ, Bool, true, false, cond, ◌&&◌, eqb, List, Some, sym, refl, ap, ◌∙◌, subst}
use Rattle.std.specs.Bool.{beq}
use Rattle.std.specs.Cmp.{booleans_Decides}
use Rattle.std.proofs.lemmas.Bool.{eqb-true, and_parts}
use Rattle.std.proofs.lemmas.Option.{same_Some}
use Rattle.automata.specs.Cores.{Core, core_of}
use Rattle.automata.specs.Sheets.{write}
use Rattle.automata.specs.declared.nodes.CoreNode.{CoreNode}
use Rattle.automata.proofs.Again.{Begins, write_stays, stays_more}
use Rattle.coreform.specs.Remembered.{number_of, with_number}
use Rattle.coreform.specs.Writing.{Stands, Known}
use Rattle.coreform.specs.declared.numbers.Numbers.{Numbers}
use Rattle.rules.specs.declared.node.Node.{Node}
use Rattle.semantics.specs.Rules.{rule_at}

-- as the sheet grows
pub known_grows : (book : List Node) (draft draft' : List CoreNode) (n : Numbers) → Begins draft draft' → Known book draft n → Known book draft' n
known_grows book draft draft' n begins known polarity p x e = stays_more _ draft draft' x begins (known polarity p x e)

-- what has been written stands on the draft
pub stands_written : (c : Core) (before draft : List CoreNode) (k : ℕ) → write c before ≡ record { sheet = draft; root = k } → Stands c draft k
stands_written c before draft k e = subst (λ w. Stands c w.sheet w.root) e (write_stays c before)

-- one number more is remembered
pub known_more : (book : List Node) (draft : List CoreNode) (n n' : Numbers) (polarity : Bool) (place number : ℕ) → Known book draft n
    → ((p : Bool) (k : ℕ) → number_of n' p k ≡ with_number n polarity place number p k) → Stands (core_of (rule_at book place) polarity) draft number → Known book draft n'
known_more book draft n n' polarity place number known sets stands p k x e = go (beq p polarity && eqb k place) refl
  where
    go : (b : Bool) → (beq p polarity && eqb k place) ≡ b → Stands (core_of (rule_at book k) p) draft x
    go true t =
        let parts = and_parts (beq p polarity) (eqb k place) t in
        let same : number ≡ x = same_Some _ _ (sym (ap (λ b. cond b (Some number) (number_of n p k)) t) ∙ sym (sets p k) ∙ e) in
        let there = subst (Stands (core_of (rule_at book place) polarity) draft) same stands in
        subst (λ k. Stands (core_of (rule_at book k) p) draft x) (sym (eqb-true k place parts.1))
        (subst (λ q. Stands (core_of (rule_at book place) q) draft x) (sym ((booleans_Decides p polarity).0 parts.0)) there)
    go false t = known p k x (sym (ap (λ b. cond b (Some number) (number_of n p k)) t) ∙ sym (sets p k) ∙ e)
