-- A recording with a word per change.
use Rattle.std.specs.Prelude.{ℕ, ◌+◌, ◌^◌, ◌<◌, if◌then◌else◌, ◌||◌, List, [], ◌∷◌, map, Some, None, Ok, Err, Option, ◌==◌, nat_le, nat_lt, slice_index_or}
use Rattle.std.specs.List.{range_with_len}
use Rattle.std.specs.Result.{result_and}
use Rattle.semantics.specs.Lassos.{Lasso}
use Rattle.models.specs.Scans.{Checked, scans_check, or_quiet}
use Rattle.models.specs.declared.edges.Edge.{Edge}
use Rattle.models.specs.declared.fault.RecordingFault.TheVariants.{EdgeOrder}

-- what slice_index_or gives past the last edge
abbrev pub no_edge : Edge
no_edge = record { scan = 0; word = 0 }

-- the words are of 64 bits
abbrev pub Smalls : List Edge → Type 0
Smalls es = (k : ℕ) → (slice_index_or es k no_edge).word < 2 ^ 64

-- the first edge at fault from number i on: the next is at scan low or later, each other after the one
-- before it, and all are below n
abbrev pub fault_from : ℕ → ℕ → ℕ → List Edge → Option ℕ
fault_from i low n [] = None
fault_from i low n (e ∷ es) =
    if nat_lt e.scan low || nat_le n e.scan then Some i else fault_from (i + 1) (e.scan + 1) n es

-- the first edge at fault; there is an edge, and the first is at scan 0
abbrev pub edge_fault : ℕ → List Edge → Option ℕ
edge_fault n [] = Some 0
edge_fault n (e ∷ es) = if e.scan == 0 then fault_from 0 0 n (e ∷ es) else Some 0

-- what the check of the edges answers
abbrev pub order_check : Option ℕ → Checked
order_check None = Ok tt
order_check (Some i) = Err (EdgeOrder i)

-- the count and the loop start first, and then the edges
abbrev pub edges_check : List Edge → ℕ → ℕ → Checked
edges_check es n start = result_and (scans_check n start) (order_check (edge_fault n es))

-- the word of the last edge at or before the scan, and w where there is none
abbrev pub word_from : ℕ → List Edge → ℕ → ℕ
word_from w [] s = w
word_from w (e ∷ es) s = word_from (if nat_le e.scan s then e.word else w) es s

-- the word at a scan; 0 before the first edge
abbrev pub word_at : List Edge → ℕ → ℕ
word_at es s = word_from 0 es s

-- the meaning of edges that passed
abbrev pub of_edges : List Edge → ℕ → ℕ → Lasso
of_edges es n start = record { words = map (word_at es) (range_with_len 0 n); start = start }

-- the meaning of what is made from any edges
abbrev pub edges_of : List Edge → ℕ → ℕ → Lasso
edges_of es n start = or_quiet (edges_check es n start) (of_edges es n start)
