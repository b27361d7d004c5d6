-- A place that is noted at a scan is told there, and nothing else changes.
use Rattle.std.proofs.Common.{◌≡◌, ℕ, ◌^◌, ◌<◌, true, eqb, ◌≢◌, List, length, get_or, set, sym, ap, ◌∙◌, arith, bit_or}
use Rattle.std.proofs.Math.Decide.{ℕ_discrete}
use Rattle.std.proofs.lemmas.List.{get_or-set_same, get_or-set_other}
use Rattle.std.proofs.lemmas.Bool.{eq-eqb}
use Rattle.semantics.specs.Meaning.{bit}
use Rattle.semantics.proofs.Bits.{insert_same, insert_other}
use Rattle.judging.specs.Truths.{told, word_of, bit_of}

abbrev pub noted : List ℕ → ℕ → ℕ → List ℕ
noted work i p = set work (word_of i p) (bit_or (get_or work (word_of i p) 0) (2 ^ bit_of p))

pub told-noted : (work : List ℕ) (i p : ℕ) → word_of i p < length work → told (noted work i p) i p ≡ true
told-noted work i p h =
    eq-eqb _ 1 (ap (λ w. bit w (bit_of p)) (get_or-set_same work (word_of i p) _ 0 h) ∙ insert_same (get_or work (word_of i p) 0) (bit_of p))

pub told_else : (work : List ℕ) (i p j q : ℕ) → word_of i p < length work → p < 256 → q < 256 → (i ≡ j → q ≢ p) → told (noted work i p) j q ≡ told work j q
told_else work i p j q h few few' other = ap (λ b. eqb b 1) (elim (ℕ_discrete (word_of j q) (word_of i p)) [
  | no ne ↦ ap (λ w. bit w (bit_of q)) (get_or-set_other work (word_of i p) (word_of j q) _ 0 ne)
  | yes e ↦
      let same : i ≡ j = omega arith in
      let ne : q ≢ p = other same in
      let apart : bit_of p ≢ bit_of q = omega arith in
      ap (λ w. bit w (bit_of q)) (ap (λ x. get_or (noted work i p) x 0) e ∙ get_or-set_same work (word_of i p) _ 0 h)
      ∙ insert_other (get_or work (word_of i p) 0) (bit_of p) (bit_of q) apart
      ∙ ap (λ x. bit (get_or work x 0) (bit_of q)) (sym e)
])
