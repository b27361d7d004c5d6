-- What passes its check is a sound lasso.
use Rattle.std.specs.Prelude.{◌≡◌, ℕ, suc, ◌^◌, ◌<◌, ◌≤◌, Bool, true, false, cond, ◌&&◌, List, [], ◌∷◌, length, is_ok, Ok, Err, nat_le, nat_lt, slice_index, refl}
use Rattle.std.proofs.Common.{sym, subst, ⊎_elim, arith}
use Rattle.std.specs.Result.{result_and}
use Rattle.std.proofs.lemmas.List.FromFn.{length-map-range_with_len, get_or-map-range_with_len}
use Rattle.std.proofs.lemmas.List.{get_or_past}
use Rattle.std.proofs.lemmas.Bool.{cases_lt, cond_both, both_ways, false≢true, and_parts, leb-true, ltb-true}
use Rattle.semantics.specs.Lassos.{Sound}
use Rattle.models.specs.Scans.{Checked, start_check, scans_check}
use Rattle.models.specs.PackedWords.{packed_check, of_packed}
use Rattle.models.specs.EdgeWords.{Smalls, edge_fault, order_check, edges_check, word_from, word_at, of_edges}
use Rattle.models.specs.declared.edges.Edge.{Edge}
use Rattle.models.specs.declared.fault.RecordingFault.TheVariants.{ScanCount, LoopStart}

-- where the other way refuses, a check that passes went this way
cond_ok : (b : Bool) (x y : Checked) → is_ok y ≡ false → is_ok (cond b x y) ≡ true → (b ≡ true) × (is_ok x ≡ true)
cond_ok true x y q p = (refl, p)
cond_ok false x y q p = absurd (both_ways (is_ok y) q p)

module _ (n start : ℕ) (p : is_ok (scans_check n start) ≡ true) where
  -- both parts of the check of scans have passed
  scans_parts : ((nat_lt 0 n && nat_le n 65535) ≡ true) × (is_ok (start_check n start) ≡ true)
  scans_parts = cond_ok (nat_lt 0 n && nat_le n 65535) (start_check n start) (Err (ScanCount n)) refl p

  -- so there are at most 65,535
  scans_few : n ≤ 65535
  scans_few = leb-true n 65535 (and_parts (nat_lt 0 n) (nat_le n 65535) scans_parts.0).1

  -- and the loop start is one of them
  scans_inside : start < n
  scans_inside = ltb-true start n (cond_ok (nat_lt start n) (Ok tt) (Err (LoopStart start)) refl scans_parts.1).0

-- words that pass their check are a sound lasso
pub packed_sound : (ws : List ℕ) (start : ℕ) → is_ok (packed_check ws start) ≡ true → ((k : ℕ) → slice_index ws k < 2 ^ 64) → Sound (of_packed ws start)
packed_sound ws start p small =
    record { few = scans_few (length ws) start p; inside = scans_inside (length ws) start p; small = small }

-- where both checks pass, each does
pub then_both : (a b : Checked) → is_ok (result_and a b) ≡ true → (is_ok a ≡ true) × (is_ok b ≡ true)
then_both (Ok u) b p = (refl, p)
then_both (Err f) b p = absurd (false≢true p)

-- the word at a scan has 64 bits where those of the edges have
word_small : (es : List Edge) (w s : ℕ) → w < 2 ^ 64 → Smalls es → word_from w es s < 2 ^ 64
word_small [] w s h all = h
word_small (e ∷ es) w s h all =
    word_small es (cond (nat_le e.scan s) e.word w) s (cond_both (nat_le e.scan s) e.word w (λ x. x < 2 ^ 64) (λ _. all 0) (λ _. h)) (λ k. all (suc k))

module _ (es : List Edge) (n start : ℕ) where
  -- there is a word for each scan
  words_length : length (of_edges es n start).words ≡ n
  words_length = length-map-range_with_len (word_at es) 0 n

  -- and each has 64 bits
  words_small : Smalls es → (k : ℕ) → slice_index (of_edges es n start).words k < 2 ^ 64
  words_small all k =
      ⊎_elim
      (λ l. subst (λ x. x < 2 ^ 64) (sym (get_or-map-range_with_len (word_at es) 0 n k k 0 l (omega arith))) (word_small es 0 k (omega arith) all))
      (λ l. subst (λ x. x < 2 ^ 64) (sym (get_or_past (of_edges es n start).words k 0 (omega (arith, words_length)))) (omega arith))
      (cases_lt k n)

  -- edges that pass their check are a sound lasso
  pub edges_sound : is_ok (edges_check es n start) ≡ true → Smalls es → Sound (of_edges es n start)
  edges_sound p all =
      let q = (then_both (scans_check n start) (order_check (edge_fault n es)) p).0 in
      record {
        few = omega (arith, words_length, scans_few n start q);
        inside = omega (arith, words_length, scans_inside n start q);
        small = words_small all;
      }
