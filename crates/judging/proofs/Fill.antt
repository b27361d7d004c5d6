-- Filling one column of the work list from the last scan back.
use Rattle.std.proofs.Common.{◌≡◌, ℕ, suc, ◌-◌, ◌*◌, ◌<◌, ◌≤◌, Bool, true, false, not, ◌&&◌, ◌||◌, ltb, ◌≢◌, List, length, drop, Decides, sym, refl, ap, ◌∙◌, subst, arith}
use Rattle.std.specs.Bool.{beq}
use Rattle.std.specs.Cmp.{booleans_Decides}
use Rattle.std.proofs.Math.Decide.{ℕ_discrete}
use Rattle.std.proofs.lemmas.List.{drop-set-lt, length-set}
use Rattle.std.proofs.lemmas.Bool.{false≢true, not-false, ltb-true, and_parts, cond_both}
use Rattle.std.proofs.lemmas.Bool.Decides.{Decides-not}
use Rattle.rules.specs.Tables.{fits_at}
use Rattle.rules.specs.declared.node.Node.{Node}
use Rattle.rules.specs.declared.node.Node.TheVariants.{True, False, Signal, Unary, Binary}
use Rattle.semantics.specs.Lassos.{Lasso, following}
use Rattle.semantics.specs.Solutions.{Solution}
use Rattle.judging.specs.Columns.{hold_on, pass_on, Denied, Column}
use Rattle.judging.specs.Truths.{told, word_of}
use Rattle.judging.specs.Turns.{unary_hold, binary_hold, binary_pass, node_hold, node_pass, lasts_of, denies_of}
use Rattle.judging.specs.declared.turn.Turn.{Turn}
use Rattle.judging.proofs.Back.{Turns, column_back}
use Rattle.judging.proofs.Noted.{noted, told-noted, told_else}

-- a turn depends on the operands alone
hold_same : (node : Node) (p : ℕ) → fits_at node p ≡ true → (word : ℕ) (f f' g g' : ℕ → Bool) → ((q : ℕ) → q < p → f q ≡ f' q) → ((q : ℕ) → q < p → g q ≡ g' q) → node_hold node word f g ≡ node_hold node word f' g'
hold_same True p h word f f' g g' a b = refl
hold_same False p h word f f' g g' a b = refl
hold_same (Signal s) p h word f f' g g' a b = refl
hold_same (Unary op x) p h word f f' g g' a b = let l = ltb-true _ _ h in λ i. unary_hold op (a x.index l i) (b x.index l i)
hold_same (Binary op x y) p h word f f' g g' a b =
    let q = and_parts (ltb x.index p) (ltb y.index p) h in
    λ i. binary_hold op (a x.index (ltb-true _ _ q.0) i) (a y.index (ltb-true _ _ q.1) i)

pass_same : (node : Node) (p : ℕ) → fits_at node p ≡ true → (f f' : ℕ → Bool) → ((q : ℕ) → q < p → f q ≡ f' q) → node_pass node f ≡ node_pass node f'
pass_same True p h f f' a = refl
pass_same False p h f f' a = refl
pass_same (Signal s) p h f f' a = refl
pass_same (Unary op x) p h f f' a = refl
pass_same (Binary op x y) p h f f' a =
    let q = and_parts (ltb x.index p) (ltb y.index p) h in
    λ i. binary_pass op (a x.index (ltb-true _ _ q.0) i)

-- the program's test of the value against the denial
pub told_same : (v d d' : Bool) → not (beq v d) ≡ false → d ≡ d' → v ≡ d'
told_same v d d' t e = (booleans_Decides v d).0 (not-false _ t) ∙ e

pub told_other : (v d d' : Bool) → not (beq v d) ≡ true → d ≡ d' → v ≡ d' → ⊥
told_other v d d' t e z = (Decides-not (beq v d) (booleans_Decides v d)).0 t (z ∙ sym e)

-- what is noted where the value and the denial differ
denied_noted : (d v : Bool) {A : Type 0} → (v ≡ d → ⊥) → Decides v A → Decides true (Denied d A)
denied_noted false true ne h = (λ _. h.0 refl, λ _. refl)
denied_noted false false ne h = absurd (ne refl)
denied_noted true true ne h = absurd (ne refl)
denied_noted true false ne h = (λ _ a. false≢true (h.1 a), λ _. refl)

denied_left : (d v : Bool) {A : Type 0} → v ≡ d → Decides v A → Decides false (Denied d A)
denied_left false true e h = absurd (false≢true (sym e))
denied_left false false e h = (λ f. absurd (false≢true f), λ a. h.1 a)
denied_left true true e h = (λ f. absurd (false≢true f), λ n. absurd (n (h.0 refl)))
denied_left true false e h = absurd (false≢true e)

-- the column of place p is written from scan j on, with the value there
pub record Filled (node : Node) (l : Lasso) (p : ℕ) (before : List ℕ) (j : ℕ) (value : Bool) (work : List ℕ) : Type 0 where
  pub value_is : Decides value (Solution (hold_on node l before) (pass_on node l before) (lasts_of node) j)
  pub empty : (k : ℕ) → k < j → told work k p ≡ false
  pub column : (k : ℕ) → j ≤ k → k < length l.words → Decides (told work k p) (Column node l before k)
  pub others : (k q : ℕ) → k < length l.words → q < 256 → q ≢ p → told work k q ≡ told before k q
  pub rest : drop (4 * length l.words) work ≡ drop (4 * length l.words) before
  pub long : length work ≡ length before

-- the column from scan j on, in the list as it is where the value is the denial, and else once the place is noted
abbrev pub Swept : Node → Lasso → ℕ → List ℕ → ℕ → Bool → List ℕ → Type 0
Swept node l p before j v work =
    (v ≡ denies_of node → Filled node l p before j v work) × ((v ≡ denies_of node → ⊥) → Filled node l p before j v (noted work j p))

module _ (node : Node) (l : Lasso) (inside : l.start < length l.words) (p : ℕ) (few : p < 256) (fits : fits_at node p ≡ true) (before : List ℕ) (enough : 4 * length l.words ≤ length before) where
  abbrev n : ℕ
  n = length l.words

  next_inside : (k : ℕ) → k < n → following n l.start k < n
  next_inside k h = cond_both (ltb (suc k) n) (suc k) l.start (λ x. x < n) (λ e. ltb-true (suc k) n e) (λ _. inside)

  -- the turn that was read from the list as it is now is that of the list before
  turned : (j k : ℕ) (value : Bool) (work : List ℕ) (t : Turn) → Filled node l p before j value work → k < n → Turns node l work k t → Turns node l before k t
  turned j k value work t w h q =
      let same : (m : ℕ) → m < n → (x : ℕ) → x < p → told work m x ≡ told before m x = λ m lt x lo. w.others m x lt (omega arith) (omega arith) in
      record {
        holds = q.holds ∙ hold_same node p fits _ _ _ _ _ (same k h) (same (following n l.start k) (next_inside k h));
        passes = q.passes ∙ pass_same node p fits _ _ (same k h);
      }

  module _ (j : ℕ) (c v : Bool) (work : List ℕ) (t : Turn) (w : Filled node l p before j c work) (some : 0 < j) (inn : j ≤ n) (q : Turns node l work (j - 1) t) (e : v ≡ (t.hold || (t.pass && c))) where
    value_back : Decides v (Solution (hold_on node l before) (pass_on node l before) (lasts_of node) (j - 1))
    value_back = column_back node l before inside j t c v some inn (turned j (j - 1) c work t w (omega arith) q) e w.value_is

    -- nothing is noted
    fill_left : v ≡ denies_of node → Filled node l p before (j - 1) v work
    fill_left d = record {
      value_is = value_back;
      empty = λ k h. w.empty k (omega arith);
      column = λ k h lt. elim (ℕ_discrete k (j - 1)) [
        | no ne ↦ w.column k (omega arith) lt
        | yes z ↦
            let off : told work k p ≡ false = w.empty k (omega arith) in
            subst (λ b. Decides b (Column node l before k)) (sym off) (subst (λ k. Decides false (Column node l before k)) (sym z) (denied_left (denies_of node) v d value_back))
      ];
      others = w.others;
      rest = w.rest;
      long = w.long;
    }

    word_inside : word_of (j - 1) p < length work
    word_inside = omega (arith, w.long)

    -- the scan before is noted
    fill_noted : (v ≡ denies_of node → ⊥) → Filled node l p before (j - 1) v (noted work (j - 1) p)
    fill_noted d = record {
      value_is = value_back;
      empty = λ k h. told_else work (j - 1) p k p word_inside few few (λ z. absurd (omega arith)) ∙ w.empty k (omega arith);
      column = λ k h lt. elim (ℕ_discrete k (j - 1)) [
        | no ne ↦
            let same : told (noted work (j - 1) p) k p ≡ told work k p = told_else work (j - 1) p k p word_inside few few (λ z. absurd (ne (sym z))) in
            subst (λ b. Decides b (Column node l before k)) (sym same) (w.column k (omega arith) lt)
        | yes z ↦
            let on : told (noted work (j - 1) p) k p ≡ true = ap (λ k. told (noted work (j - 1) p) k p) z ∙ told-noted work (j - 1) p word_inside in
            subst (λ b. Decides b (Column node l before k)) (sym on) (subst (λ k. Decides true (Column node l before k)) (sym z) (denied_noted (denies_of node) v d value_back))
      ];
      others = λ k x lt lo ne. told_else work (j - 1) p k x word_inside few lo (λ _. ne) ∙ w.others k x lt lo ne;
      rest = drop-set-lt (4 * n) work (word_of (j - 1) p) _ (omega arith) ∙ w.rest;
      long = length-set work (word_of (j - 1) p) _ ∙ w.long;
    }

    pub swept : Swept node l p before (j - 1) v work
    swept = (fill_left, fill_noted)
