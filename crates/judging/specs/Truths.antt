-- What the work list says: word 4 × i + j has in bit b the truth of place 64 × j + b at scan i.
use Rattle.std.specs.Prelude.{ℕ, ◌+◌, ◌*◌, ◌/◌, ◌%◌, Bool, List, ◌==◌, slice_index}
use Rattle.semantics.specs.Meaning.{bit}

-- the word of a place at a scan
abbrev pub word_of : ℕ → ℕ → ℕ
word_of scan place = 4 * scan + place / 64

-- the bit of a place in that word
abbrev pub bit_of : ℕ → ℕ
bit_of place = place % 64

-- the work list tells the place true at the scan
abbrev pub told : List ℕ → ℕ → ℕ → Bool
told work scan place = bit (slice_index work (word_of scan place)) (bit_of place) == 1
