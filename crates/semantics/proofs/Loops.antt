-- The scans of an endless sequence that goes back from its last scan to the loop start.
use Rattle.std.proofs.Common.{◌≡◌, ℕ, zero, suc, ◌+◌, ◌-◌, ◌*◌, ◌/◌, ◌%◌, ◌<◌, ◌≤◌, ◌⊎◌, ◌↔◌, length, get_or, sym, ap, ◌∙◌, subst, inl, inr, add-zero, mod-lt, mod-eq_of_lt, suc-mul, div-add-mod', arith}
use Rattle.std.proofs.Math.Decide.{dec_lt}
use Rattle.std.proofs.Math.Nat.{add-mod_right}
use Rattle.std.proofs.Math.Arith.{digits_mod}
use Rattle.std.proofs.lemmas.Bool.{lt-ltb, le-ltb, cond-true, cond-false}
use Rattle.semantics.specs.Lassos.{Lasso, wrapped, scan_at, unrolled, following}
use Rattle.semantics.specs.Meaning.{Holds}
use Rattle.semantics.specs.Rules.{Rule}
use Rattle.semantics.proofs.Shifts.{holds_shift}

module _ (n s : ℕ) (inside : s < n) where
  pub wrapped_low : (i : ℕ) → i < n → wrapped n s i ≡ i
  wrapped_low i h = cond-true _ _ _ (lt-ltb i n h)

  wrapped_high : (i : ℕ) → n ≤ i → wrapped n s i ≡ s + (i - s) % (n - s)
  wrapped_high i h = cond-false _ _ _ (le-ltb i n h)

  -- from the loop start on it is the remainder
  wrapped_mod : (i : ℕ) → s ≤ i → wrapped n s i ≡ s + (i - s) % (n - s)
  wrapped_mod i l = elim (dec_lt i n) [
    | yes q ↦ wrapped_low i q ∙ (let e : (i - s) % (n - s) ≡ i - s = mod-eq_of_lt (omega arith) in omega arith)
    | no q ↦ wrapped_high i (omega arith)
  ]

  pub wrapped_lt : (i : ℕ) → wrapped n s i < n
  wrapped_lt i = elim (dec_lt i n) [
    | yes q ↦ subst (λ x. x < n) (sym (wrapped_low i q)) q
    | no q ↦ subst (λ x. x < n) (sym (wrapped_high i (omega arith))) (let p : 0 < n - s = omega arith in omega (arith, mod-lt (i - s) p))
  ]

  pub wrapped_again : (i : ℕ) → s ≤ i → wrapped n s (i + (n - s)) ≡ wrapped n s i
  wrapped_again i l =
      let e : i + (n - s) - s ≡ (i - s) + (n - s) = omega arith in
      wrapped_mod (i + (n - s)) (omega arith) ∙ ap (λ x. s + x) (ap (λ x. x % (n - s)) e ∙ add-mod_right (i - s) (n - s)) ∙ sym (wrapped_mod i l)

  mod_suc : (d p : ℕ) → 0 < p → ((suc (d % p) < p) × (suc d % p ≡ suc (d % p))) ⊎ ((suc (d % p) ≡ p) × (suc d % p ≡ 0))
  mod_suc d p h =
      let m : d / p * p + d % p ≡ d = div-add-mod' d p in
      elim (dec_lt (suc (d % p)) p) [
        | yes q ↦ let f : suc d ≡ d / p * p + suc (d % p) = omega arith in inl (q, ap (λ x. x % p) f ∙ digits_mod (d / p) q)
        | no q ↦
            let e : suc (d % p) ≡ p = omega (arith, mod-lt d h) in
            let f : suc d ≡ suc (d / p) * p + 0 = omega (arith, suc-mul (d / p) p) in
            inr (e, ap (λ x. x % p) f ∙ digits_mod (suc (d / p)) h)
      ]

  pub wrapped-suc : (i : ℕ) → wrapped n s (suc i) ≡ following n s (wrapped n s i)
  wrapped-suc i = elim (dec_lt (suc i) n) [
    | yes q ↦
        let e = wrapped_low i (omega arith) in
        wrapped_low (suc i) q ∙ sym (cond-true _ _ _ (lt-ltb (suc i) n q)) ∙ ap (following n s) (sym e)
    | no q ↦
        let a : suc i - s ≡ suc (i - s) = omega arith in
        let e = wrapped_mod i (omega arith) in
        let f : wrapped n s (suc i) ≡ s + suc (i - s) % (n - s) = wrapped_mod (suc i) (omega arith) ∙ ap (λ x. s + x % (n - s)) a in
        elim (mod_suc (i - s) (n - s) (omega arith)) [
          | inl r ↦
              let l : suc (wrapped n s i) < n = omega (arith, r.0) in
              let g : wrapped n s (suc i) ≡ suc (wrapped n s i) = omega (arith, r.1) in
              g ∙ sym (cond-true _ _ _ (lt-ltb (suc (wrapped n s i)) n l))
          | inr r ↦
              let l : n ≤ suc (wrapped n s i) = omega (arith, r.0) in
              let g : wrapped n s (suc i) ≡ s = omega (arith, r.1) in
              g ∙ sym (cond-false _ _ _ (le-ltb (suc (wrapped n s i)) n l))
        ]
  ]

  -- what follows a position is what follows its scan
  pub wrapped_on : (i k : ℕ) → wrapped n s (i + k) ≡ wrapped n s (wrapped n s i + k)
  wrapped_on i zero =
      let e = wrapped_low (wrapped n s i) (wrapped_lt i) in
      ap (wrapped n s) (add-zero i) ∙ sym e ∙ ap (wrapped n s) (sym (add-zero (wrapped n s i)))
  wrapped_on i (suc k) =
      let a : i + suc k ≡ suc (i + k) = omega arith in
      let b : suc (wrapped n s i + k) ≡ wrapped n s i + suc k = omega arith in
      ap (wrapped n s) a ∙ wrapped-suc (i + k) ∙ ap (following n s) (wrapped_on i k) ∙ sym (wrapped-suc (wrapped n s i + k)) ∙ ap (wrapped n s) b

-- a rule holds at a position exactly where it holds at the position's scan
pub holds_wrapped : (r : Rule) (l : Lasso) → l.start < length l.words → (i : ℕ) → Holds r (unrolled l) i ↔ Holds r (unrolled l) (scan_at l i)
holds_wrapped r l inside i = holds_shift r (unrolled l) (unrolled l) i (scan_at l i) (λ k. ap (λ x. get_or l.words x 0) (wrapped_on (length l.words) l.start inside i k))
