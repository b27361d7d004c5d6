-- The sweeps over the scans of a recording, one scan back at a time.
use Rattle.std.proofs.Common.{◌≡◌, ℕ, suc, ◌+◌, ◌-◌, ◌<◌, ◌≤◌, Bool, ◌&&◌, ◌||◌, List, length, get_or, Decides, sym, ap, ◌∙◌, subst, arith}
use Rattle.rules.specs.declared.node.Node.{Node}
use Rattle.semantics.specs.Lassos.{Lasso, scan_at, following}
use Rattle.semantics.specs.Solutions.{Solution}
use Rattle.semantics.proofs.Loops.{wrapped_low, wrapped-suc, wrapped_again}
use Rattle.semantics.proofs.Sweeps.{Reached, reached_back, solution_back, first_sweep}
use Rattle.judging.specs.Columns.{hold_on, pass_on}
use Rattle.judging.specs.Truths.{told}
use Rattle.judging.specs.Turns.{node_hold, node_pass, lasts_of}
use Rattle.judging.specs.declared.turn.Turn.{Turn}

-- the turn of the node at a scan
pub record Turns (node : Node) (l : Lasso) (work : List ℕ) (k : ℕ) (t : Turn) : Type 0 where
  pub holds : t.hold ≡ node_hold node (get_or l.words k 0) (told work k) (told work (following (length l.words) l.start k))
  pub passes : t.pass ≡ node_pass node (told work k)

module _ (node : Node) (l : Lasso) (work : List ℕ) (inside : l.start < length l.words) where
  abbrev n : ℕ
  n = length l.words

  abbrev s : ℕ
  s = l.start

  abbrev hold : ℕ → Bool
  hold = hold_on node l work

  abbrev pass : ℕ → Bool
  pass = pass_on node l work

  at_scan : (k : ℕ) → k < n → k ≡ scan_at l k
  at_scan k h = sym (wrapped_low n s inside k h)

  after_scan : (k : ℕ) → k < n → following n s k ≡ scan_at l (suc k)
  after_scan k h = ap (following n s) (at_scan k h) ∙ sym (wrapped-suc n s inside k)

  turn_is : (k : ℕ) (t : Turn) (c : Bool) → k < n → Turns node l work k t → (t.hold || (t.pass && c)) ≡ (hold k || (pass k && c))
  turn_is k t c h q =
      let e = at_scan k h in
      let f = after_scan k h in
      let a : t.hold ≡ hold k = q.holds ∙ (λ i. node_hold node (get_or l.words (e i) 0) (told work (e i)) (told work (f i))) in
      let b : t.pass ≡ pass k = q.passes ∙ (λ i. node_pass node (told work (e i))) in
      λ i. a i || (b i && c)

  pub sweep_back : (j : ℕ) (t : Turn) (c v : Bool) → 0 < j → j ≤ n → Turns node l work (j - 1) t → v ≡ (t.hold || (t.pass && c))
      → Decides c (Reached hold pass (lasts_of node) n j) → Decides v (Reached hold pass (lasts_of node) n (j - 1))
  sweep_back j t c v some few q e d =
      let o : j ≡ suc (j - 1) = omega arith in
      let lt : j - 1 < n = omega arith in
      subst (λ b. Decides b (Reached hold pass (lasts_of node) n (j - 1))) (sym (e ∙ turn_is (j - 1) t c lt q))
      (reached_back hold pass (lasts_of node) n (j - 1) c lt (subst (λ j. Decides c (Reached hold pass (lasts_of node) n j)) o d))

  pub column_back : (j : ℕ) (t : Turn) (c v : Bool) → 0 < j → j ≤ n → Turns node l work (j - 1) t → v ≡ (t.hold || (t.pass && c))
      → Decides c (Solution hold pass (lasts_of node) j) → Decides v (Solution hold pass (lasts_of node) (j - 1))
  column_back j t c v some few q e d =
      let o : j ≡ suc (j - 1) = omega arith in
      let lt : j - 1 < n = omega arith in
      subst (λ b. Decides b (Solution hold pass (lasts_of node) (j - 1))) (sym (e ∙ turn_is (j - 1) t c lt q))
      (solution_back hold pass (lasts_of node) (j - 1) c (subst (λ j. Decides c (Solution hold pass (lasts_of node) j)) o d))

  scan_again : (k : ℕ) → s ≤ k → scan_at l (k + (n - s)) ≡ scan_at l k
  scan_again k h = wrapped_again n s inside k h

  next_again : (k : ℕ) → s ≤ k → scan_at l (suc (k + (n - s))) ≡ scan_at l (suc k)
  next_again k h = let e : suc (k + (n - s)) ≡ suc k + (n - s) = omega arith in ap (scan_at l) e ∙ scan_again (suc k) (omega arith)

  pub sweep_ends : (c : Bool) (m : ℕ) → m ≡ s → Decides c (Reached hold pass (lasts_of node) n m) → Decides c (Solution hold pass (lasts_of node) n)
  sweep_ends c m e d =
      first_sweep hold pass n s inside
      (λ k h. let a = scan_again k h in let b = next_again k h in λ i. node_hold node (get_or l.words (a i) 0) (told work (a i)) (told work (b i)))
      (λ k h. let a = scan_again k h in λ i. node_pass node (told work (a i)))
      (lasts_of node) c (subst (λ m. Decides c (Reached hold pass (lasts_of node) n m)) e d)
