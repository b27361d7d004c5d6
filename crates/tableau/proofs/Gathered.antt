-- The signals of an Old, one core number further.
use Rattle.std.proofs.Common.{◌≡◌, ℕ, ◌+◌, true, false, cond, List, sym, ap, ◌∙◌, add-one}
use Rattle.std.specs.Int.Bits.{bit_or, or_zero_r}
use Rattle.automata.specs.Sets.{has}
use Rattle.automata.specs.Steps.{signals, node_on}
use Rattle.automata.specs.declared.nodes.CoreNode.{CoreNode}
use Rattle.automata.specs.declared.nodes.CoreSet.{CoreSet}

module _ (literal : CoreNode → ℕ) (sheet : List CoreNode) (old : CoreSet) (n r s : ℕ) (before : s ≡ signals literal sheet old n) where
  -- a member gives its literal
  pub signals_in : (node : CoreNode) (v : ℕ) → node ≡ node_on sheet n → v ≡ literal node → r ≡ bit_or s v → true ≡ has old n → r ≡ signals literal sheet old (n + 1)
  signals_in node v is e f h =
      let same : v ≡ cond (has old n) (literal (node_on sheet n)) 0 = e ∙ ap literal is ∙ ap (λ b. cond b (literal (node_on sheet n)) 0) h in
      rw add-one (f ∙ (λ i. bit_or (before i) (same i)))

  pub signals_out : r ≡ s → false ≡ has old n → r ≡ signals literal sheet old (n + 1)
  signals_out e h =
      rw add-one (e ∙ before ∙ sym (or_zero_r (signals literal sheet old n)) ∙ ap (λ b. bit_or (signals literal sheet old n) (cond b (literal (node_on sheet n)) 0)) h)
