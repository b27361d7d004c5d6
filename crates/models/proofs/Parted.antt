-- Edges that passed, parted at a scan: those at or before it, and those after it.
use Rattle.std.proofs.Common.{zero, suc, ◌∙◌, ◌≡◌, ℕ, ◌-◌, ◌<◌, ◌≤◌, Bool, true, false, cond, eqb, leb, List, [], ◌∷◌, length, take, drop, get_or, is_ok, None, sym, refl, ap, subst, arith}
use Rattle.std.specs.List.Sorted.{IsPartitionedBy, IsPartitionPoint}
use Rattle.std.proofs.lemmas.Bool.{cond-true, cond-false, lt-leb, leb-true, le-leb, leb-false, eqb-true}
use Rattle.std.proofs.lemmas.List.{get_or_default, length-drop, take_all}
use Rattle.std.proofs.lemmas.Option.{none-some}
use Rattle.models.specs.EdgeWords.{no_edge, fault_from, edge_fault, order_check, edges_check, word_at, word_from}
use Rattle.models.specs.Scans.{scans_check}
use Rattle.models.specs.Soundness.{then_both}
use Rattle.models.specs.declared.edges.Edge.{Edge}
use Rattle.models.proofs.Orderly.{order_none, first_none, passed_rising}

-- the edges from number i on are after the scan
abbrev After : ℕ → List Edge → ℕ → Type 0
After i es s = (k : ℕ) → i ≤ k → k < length es → s < (get_or es k no_edge).scan

after_tail : (i : ℕ) (e : Edge) (es : List Edge) (s : ℕ) → After (suc i) (e ∷ es) s → After i es s
after_tail i e es s all k l h = all (suc k) (omega arith) (omega arith)

word_kept : (w : ℕ) (es : List Edge) (s : ℕ) → After 0 es s → word_from w es s ≡ w
word_kept w [] s all = refl
word_kept w (e ∷ es) s all =
    let later : leb e.scan s ≡ false = lt-leb e.scan s (all 0 (omega arith) (omega arith)) in
    ap (λ v. word_from v es s) (cond-false (leb e.scan s) e.word w later)
    ∙ word_kept w es s (λ k l h. all (suc k) (omega arith) (omega arith))

word_found : (w : ℕ) (es : List Edge) (s i : ℕ) → i < length es → (get_or es i no_edge).scan ≤ s → After (suc i) es s → word_from w es s ≡ (get_or es i no_edge).word
word_found w [] s i h l all = omega arith
word_found w (e ∷ es) s zero h l all =
    ap (λ v. word_from v es s) (cond-true (leb e.scan s) e.word w (le-leb e.scan s l))
    ∙ word_kept e.word es s (after_tail 0 e es s all)
word_found w (e ∷ es) s (suc i) h l all =
    word_found (cond (leb e.scan s) e.word w) es s i (omega arith) l (after_tail (suc i) e es s all)

-- a scan is at or before this one
abbrev pub at_or_before : ℕ → Edge → Bool
at_or_before s e = leb e.scan s

first_edge : (n : ℕ) (es : List Edge) → edge_fault n es ≡ None → (0 < length es) × ((get_or es 0 no_edge).scan ≡ 0)
first_edge n [] p = absurd (none-some 0 (sym p))
first_edge n (e ∷ es) p = (omega arith, eqb-true e.scan 0 (first_none (eqb e.scan 0) 0 (fault_from 0 0 n (e ∷ es)) p).0)

-- the edges after the first are parted as all of them are
tail_parted : (p : Edge → Bool) (es : List Edge) → IsPartitionedBy p es → IsPartitionedBy p (drop 1 es)
tail_parted p [] all = all
tail_parted p (e ∷ es) all = λ i j d l h t. all (suc i) (suc j) d (omega arith) (omega arith) t

-- those below number i are at or before the scan, and those from i on after it
abbrev pub PartedAt : ℕ → List Edge → ℕ → Type 0
PartedAt s es i = IsPartitionPoint (λ e. at_or_before s e ≡ true) (λ e. at_or_before s e ≡ false) es i

last_scan : (e : Edge) (es : List Edge) (s i : ℕ) → e.scan ≡ 0 → PartedAt s es i → i ≤ length es → (get_or (e ∷ es) i no_edge).scan ≤ s
last_scan e es s zero first point within = omega (arith, first)
last_scan e es s (suc i) first point within = leb-true _ s (point.0 i no_edge (omega arith) (omega (arith, within)))

after_last : (e : Edge) (es : List Edge) (s i : ℕ) → PartedAt s es i → After (suc i) (e ∷ es) s
after_last e es s i point zero l h = absurd (omega (arith, l))
after_last e es s i point (suc k) l h = leb-false _ s (point.1 k no_edge (omega (arith, l)) (omega (arith, h)))

-- where the edges after the first are parted, the last one at or before the scan has the word
last_before : (es : List Edge) (s i : ℕ) → 0 < length es → (get_or es 0 no_edge).scan ≡ 0 → PartedAt s (drop 1 es) i → i ≤ length (drop 1 es) → (get_or es i no_edge).word ≡ word_at es s
last_before [] s i some first point within = absurd (omega (arith, some))
last_before (e ∷ es) s i some first point within =
    sym (word_found 0 (e ∷ es) s i (omega (arith, within)) (last_scan e es s i first point within) (after_last e es s i point))

module _ (es : List Edge) (n start s : ℕ) (passed : is_ok (edges_check es n start) ≡ true) where
  at_start : (0 < length es) × ((get_or es 0 no_edge).scan ≡ 0)
  at_start = first_edge n es (order_none (edge_fault n es) (then_both (scans_check n start) (order_check (edge_fault n es)) passed).1)

  pub parted : IsPartitionedBy (at_or_before s) es
  parted i j d l h p =
      let up = passed_rising es n start passed i j l h in
      let here = leb-true (get_or es j d).scan s p in
      let first : (get_or es i d).scan ≡ (get_or es i no_edge).scan = ap (λ (e : Edge). e.scan) (get_or_default es i d no_edge (omega arith)) in
      let last : (get_or es j d).scan ≡ (get_or es j no_edge).scan = ap (λ (e : Edge). e.scan) (get_or_default es j d no_edge h) in
      le-leb (get_or es i d).scan s (omega arith)

  -- the edges after the first, as a slice holds them
  after_first : take (length es - 1) (drop 1 es) ≡ drop 1 es
  after_first = take_all (length es - 1) (drop 1 es) (omega (arith, length-drop 1 es))

  pub later_parted : IsPartitionedBy (at_or_before s) (take (length es - 1) (drop 1 es))
  later_parted = subst (IsPartitionedBy (at_or_before s)) (sym after_first) (tail_parted (at_or_before s) es parted)

  pub word_before : (i : ℕ) → PartedAt s (take (length es - 1) (drop 1 es)) i → i ≤ length (take (length es - 1) (drop 1 es)) → (get_or es i no_edge).word ≡ word_at es s
  word_before i point within = last_before es s i at_start.0 at_start.1 (subst (λ l. PartedAt s l i) after_first point) (subst (λ l. i ≤ length l) after_first within)
