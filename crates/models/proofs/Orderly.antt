-- Edges in order: one step of the check, and what it says of two edges.
use Rattle.std.proofs.Common.{◌≡◌, ℕ, zero, suc, ◌+◌, ◌<◌, ◌≤◌, Bool, true, false, cond, ◌||◌, eqb, ltb, leb, List, [], ◌∷◌, length, get_or, drop, is_ok, Some, None, Option, sym, refl, ◌∙◌, arith}
use Rattle.std.proofs.lemmas.List.{at_drop_more}
use Rattle.std.proofs.lemmas.Bool.{cond-false, ltb-false, or_parts, or_from, le-ltb, lt-leb, false≢true}
use Rattle.std.proofs.lemmas.Option.{none-some}
use Rattle.models.specs.EdgeWords.{no_edge, fault_from, edge_fault, order_check, edges_check}
use Rattle.models.specs.Scans.{scans_check}
use Rattle.models.specs.Soundness.{then_both}
use Rattle.models.specs.declared.edges.Edge.{Edge}

-- an edge that is in its bounds leaves the fault to those after it
pub fault_later : (es : List Edge) (i low n : ℕ) → i < length es → low ≤ (get_or es i no_edge).scan → (get_or es i no_edge).scan < n → fault_from (i + 1) ((get_or es i no_edge).scan + 1) n (drop (i + 1) es) ≡ fault_from i low n (drop i es)
fault_later es i low n h above below =
    sym (at_drop_more (fault_from i low n) es i no_edge h ∙ cond-false _ _ _ (or_from _ _ (le-ltb _ _ above) (lt-leb _ _ below)))

some_none : (b : Bool) (i : ℕ) (o : Option ℕ) → cond b (Some i) o ≡ None → (b ≡ false) × (o ≡ None)
some_none true i o p = absurd (none-some i (sym p))
some_none false i o p = (refl, p)

-- no edge at fault: the first is in its bounds, and those after it are in order
module _ (i low n : ℕ) (e : Edge) (es : List Edge) (p : fault_from i low n (e ∷ es) ≡ None) where
  first_fits : low ≤ e.scan
  first_fits = ltb-false e.scan low (or_parts (ltb e.scan low) (leb n e.scan) (some_none (ltb e.scan low || leb n e.scan) i _ p).0).0

  later_fit : fault_from (i + 1) (e.scan + 1) n es ≡ None
  later_fit = (some_none (ltb e.scan low || leb n e.scan) i _ p).1

above_low : (i low n : ℕ) (es : List Edge) → fault_from i low n es ≡ None → (k : ℕ) → k < length es → low ≤ (get_or es k no_edge).scan
above_low i low n [] p k h = omega arith
above_low i low n (e ∷ es) p zero h = first_fits i low n e es p
above_low i low n (e ∷ es) p (suc k) h =
    let rest = above_low (i + 1) (e.scan + 1) n es (later_fit i low n e es p) k (omega arith) in
    omega (arith, first_fits i low n e es p)

pub rising : (i low n : ℕ) (es : List Edge) → fault_from i low n es ≡ None → (j k : ℕ) → j ≤ k → k < length es → (get_or es j no_edge).scan ≤ (get_or es k no_edge).scan
rising i low n [] p j k l h = omega arith
rising i low n (e ∷ es) p zero zero l h = omega arith
rising i low n (e ∷ es) p zero (suc k) l h =
    let rest = above_low (i + 1) (e.scan + 1) n es (later_fit i low n e es p) k (omega arith) in omega arith
rising i low n (e ∷ es) p (suc j) zero l h = omega arith
rising i low n (e ∷ es) p (suc j) (suc k) l h =
    rising (i + 1) (e.scan + 1) n es (later_fit i low n e es p) j k (omega arith) (omega arith)

pub order_none : (o : Option ℕ) → is_ok (order_check o) ≡ true → o ≡ None
order_none None p = refl
order_none (Some i) p = absurd (false≢true p)

pub first_none : (b : Bool) (i : ℕ) (o : Option ℕ) → cond b o (Some i) ≡ None → (b ≡ true) × (o ≡ None)
first_none true i o p = (refl, p)
first_none false i o p = absurd (none-some i (sym p))

none_from : (n : ℕ) (es : List Edge) → edge_fault n es ≡ None → fault_from 0 0 n es ≡ None
none_from n [] p = refl
none_from n (e ∷ es) p = (first_none (eqb e.scan 0) 0 (fault_from 0 0 n (e ∷ es)) p).1

-- the scans of edges that passed their check do not fall
pub passed_rising : (es : List Edge) (n start : ℕ) → is_ok (edges_check es n start) ≡ true → (j k : ℕ) → j ≤ k → k < length es → (get_or es j no_edge).scan ≤ (get_or es k no_edge).scan
passed_rising es n start p =
    rising 0 0 n es (none_from n es (order_none (edge_fault n es) (then_both (scans_check n start) (order_check (edge_fault n es)) p).1))
