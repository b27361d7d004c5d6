-- A lasso: scans 0 to n − 1, which are followed by those from the loop start on, without end.
use Rattle.std.specs.Prelude.{ℕ, suc, ◌+◌, ◌-◌, ◌%◌, ◌^◌, ◌<◌, ◌≤◌, if◌then◌else◌, List, length, nat_lt, slice_index}

-- its words and its loop start; the number of scans is that of the words
pub record Lasso : Type 0 where
  -- one for each scan
  pub words : List ℕ
  pub start : ℕ

-- what holds of the lasso of every recording: 1 to 65,535 scans of 64 signals, the loop start among them
pub record Sound (l : Lasso) : Type 0 where
  pub few : length l.words ≤ 65535
  pub inside : l.start < length l.words
  pub small : (k : ℕ) → slice_index l.words k < 2 ^ 64

-- the scan at position i of the endless sequence, of n scans with the loop start s
abbrev pub wrapped : ℕ → ℕ → ℕ → ℕ
wrapped n s i = if nat_lt i n then i else s + (i - s) % (n - s)

-- the same for a lasso
abbrev pub scan_at : Lasso → ℕ → ℕ
scan_at l i = wrapped (length l.words) l.start i

-- the endless sequence of words
abbrev pub unrolled : Lasso → ℕ → ℕ
unrolled l i = slice_index l.words (scan_at l i)

-- the scan after scan x
abbrev pub following : ℕ → ℕ → ℕ → ℕ
following n s x = if nat_lt (suc x) n then suc x else s
