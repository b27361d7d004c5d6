-- The work list, place after place.
use Rattle.std.proofs.Common.{◌≡◌, ℕ, ◌+◌, ◌*◌, ◌<◌, ◌≤◌, true, false, eqb, ltb, ◌↔◌, List, length, get_or, Decides, sym, refl, ◌∙◌, subst, arith}
use Rattle.std.proofs.Math.Decide.{ℕ_discrete}
use Rattle.std.proofs.lemmas.Bool.{false≢true, eqb-true, eq-eqb, ltb-true, and_parts}
use Rattle.std.proofs.lemmas.Bool.Decides.{Decides-like}
use Rattle.rules.specs.Tables.{fits_at, Ordered}
use Rattle.rules.specs.declared.node.Node.{Node}
use Rattle.rules.specs.declared.node.Node.TheVariants.{True, False, Signal, Unary, Binary}
use Rattle.semantics.specs.Lassos.{Lasso, scan_at, unrolled}
use Rattle.semantics.specs.Meaning.{bit, Holds}
use Rattle.semantics.specs.Rules.{built, rule_at}
use Rattle.semantics.proofs.Loops.{wrapped_lt, holds_wrapped}
use Rattle.semantics.proofs.Places.{rule_opens}
use Rattle.judging.specs.Columns.{Column}
use Rattle.judging.specs.Tabled.{Tabled}
use Rattle.judging.specs.Truths.{told, word_of, bit_of}
use Rattle.judging.proofs.Operators.{plain, unary_right, binary_right}

module _ (book : List Node) (ordered : Ordered book) (few : length book ≤ 256) (l : Lasso) (inside : l.start < length l.words) where
  -- what the list tells of a place at the scan of a position is so at the position
  told_right : (p : ℕ) (work : List ℕ) → Tabled book l p work → p ≤ 256 → (q : ℕ) → q < p → (k : ℕ) → Decides (told work (scan_at l k) q) (Holds (rule_at book q) (unrolled l) k)
  told_right p work t le q lt k =
      let d = t (scan_at l k) q (wrapped_lt (length l.words) l.start inside k) (omega arith) in
      let w = holds_wrapped (rule_at book q) l inside k in
      (λ e. w.1 (d.0 e).1, λ h. d.1 (lt, w.0 h))

  by_node : (p : ℕ) (work : List ℕ) → Tabled book l p work → p ≤ 256 → (node : Node) → fits_at node p ≡ true → (i : ℕ) → Column node l work i ↔ Holds (built (rule_at book) node) (unrolled l) i
  by_node p work t le True h i = plain (λ _. true) i ((λ _. tt), λ _. refl)
  by_node p work t le False h i = plain (λ _. false) i ((λ e. false≢true e), λ x. absurd x)
  by_node p work t le (Signal s) h i = plain (λ k. eqb (bit (unrolled l k) s) 1) i ((λ e. eqb-true _ 1 e), λ e. eq-eqb _ 1 e)
  by_node p work t le (Unary op a) h i =
      unary_right (Holds (rule_at book a.index) (unrolled l)) (λ k. told work (scan_at l k) a.index) (told_right p work t le a.index (ltb-true _ _ h)) op i
  by_node p work t le (Binary op a b) h i =
      let q = and_parts (ltb a.index p) (ltb b.index p) h in
      binary_right (Holds (rule_at book a.index) (unrolled l)) (Holds (rule_at book b.index) (unrolled l)) (λ k. told work (scan_at l k) a.index) (λ k. told work (scan_at l k) b.index)
      (told_right p work t le a.index (ltb-true _ _ q.0)) (told_right p work t le b.index (ltb-true _ _ q.1)) op i

  column_right : (p : ℕ) (work : List ℕ) → Tabled book l p work → p < length book → (i : ℕ) → Column (get_or book p True) l work i ↔ Holds (rule_at book p) (unrolled l) i
  column_right p work t lt i =
      subst (λ r. Column (get_or book p True) l work i ↔ Holds r (unrolled l) i) (sym (rule_opens book ordered p (get_or book p True) (lt, refl)))
      (by_node p work t (omega arith) (get_or book p True) (ordered p lt) i)

  -- one more column
  pub table_more : (p : ℕ) (work work' : List ℕ) → Tabled book l p work → p < length book
      → ((i : ℕ) → i < length l.words → Decides (told work' i p) (Column (get_or book p True) l work i))
      → ((i q : ℕ) → i < length l.words → q < 256 → (q ≡ p → ⊥) → told work' i q ≡ told work i q)
      → Tabled book l (p + 1) work'
  table_more p work work' t lt column others i q h few' = elim (ℕ_discrete q p) [
    | yes e ↦
        let c = column_right p work t lt i in
        let d : Decides (told work' i p) ((p < p + 1) × Holds (rule_at book p) (unrolled l) i) =
        Decides-like (told work' i p) (λ x. (omega arith, c.0 x)) (λ x. c.1 x.1) (column i h) in
        subst (λ q. Decides (told work' i q) ((q < p + 1) × Holds (rule_at book q) (unrolled l) i)) (sym e) d
    | no ne ↦
        let d = t i q h few' in
        subst (λ b. Decides b ((q < p + 1) × Holds (rule_at book q) (unrolled l) i)) (sym (others i q h few' ne))
        ((λ e. let x = d.0 e in (omega (arith, x.0), x.1)), λ x. d.1 (omega (arith, x.0), x.1))
  ]

  -- the answer
  pub table_answers : (p : ℕ) (work : List ℕ) → Tabled book l (p + 1) work → p < 256 → Decides (told work 0 p) (Holds (rule_at book p) (unrolled l) 0)
  table_answers p work t lt = let d = t 0 p (omega arith) lt in Decides-like (told work 0 p) (λ x. x.1) (λ x. (omega arith, x)) d

  -- every bit of the list
  pub table_bits : (p : ℕ) (work : List ℕ) → Tabled book l (p + 1) work
      → (i j b : ℕ) → i < length l.words → j < 4 → b < 64 → (bit (get_or work (4 * i + j) 0) b ≡ 1) ↔ ((64 * j + b ≤ p) × Holds (rule_at book (64 * j + b)) (unrolled l) i)
  table_bits p work t i j b h lj lb =
      let d = t i (64 * j + b) h (omega arith) in
      let u : word_of i (64 * j + b) ≡ 4 * i + j = omega arith in
      let v : bit_of (64 * j + b) ≡ b = omega arith in
      let w : bit (get_or work (word_of i (64 * j + b)) 0) (bit_of (64 * j + b)) ≡ bit (get_or work (4 * i + j) 0) b = (λ k. bit (get_or work (u k) 0) (v k)) in (
        λ e. let x = d.0 (eq-eqb _ 1 (w ∙ e)) in (omega (arith, x.0), x.1),
        λ x. sym w ∙ eqb-true _ 1 (d.1 (omega (arith, x.0), x.1)),
      )
