-- A bit that is put into a word, and the others.
use Rattle.std.proofs.Common.{◌≡◌, ℕ, ◌^◌, ◌≢◌, sym, arith, bit_or}
use Rattle.std.proofs.lemmas.Nat.Bits.{bit_at-lt, bit_at_or, bit_at-pow_same, bit_at-pow_other}
use Rattle.semantics.specs.Meaning.{bit}

pub insert_same : (m k : ℕ) → bit (bit_or m (2 ^ k)) k ≡ 1
insert_same m k = omega (arith, bit_at_or m (2 ^ k) k, bit_at-pow_same k, bit_at-lt m k)

pub insert_other : (m j k : ℕ) → j ≢ k → bit (bit_or m (2 ^ j)) k ≡ bit m k
insert_other m j k n = omega (arith, bit_at_or m (2 ^ j) k, bit_at-pow_other j k (λ e. n (sym e)))
