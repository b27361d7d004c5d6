-- What holds of the nodes of every book.
use Rattle.std.specs.Prelude.{◌≡◌, ℕ, ◌<◌, ◌≤◌, Bool, true, ◌&&◌, List, ◌++◌, length, take, ◌≢◌, nat_lt, slice_index_or}
use Rattle.rules.specs.declared.node.Node.{Node}
use Rattle.rules.specs.declared.node.Node.TheVariants.{True, False, Signal, Unary, Binary}
use Rattle.rules.specs.declared.table.Table.{Table}

-- the nodes that are entered
abbrev pub listed : Table → List Node
listed t = take t.count t.nodes

-- whether the node may stand at place n: its operands lie lower, and its signal is one of the 64
abbrev pub fits_at : Node → ℕ → Bool
fits_at True n = true
fits_at False n = true
fits_at (Signal s) n = nat_lt s 64
fits_at (Unary o a) n = nat_lt a.index n
fits_at (Binary o a b) n = nat_lt a.index n && nat_lt b.index n

-- operands lie at lower places than their node
abbrev pub Ordered : List Node → Type 0
Ordered xs = (k : ℕ) → k < length xs → fits_at (slice_index_or xs k True) k ≡ true

-- no two nodes are equal
abbrev pub Distinct : List Node → Type 0
Distinct xs = (j k : ℕ) → j < k → k < length xs → slice_index_or xs j True ≢ slice_index_or xs k True

-- every book: at most 256 nodes, operands lower, no two equal
pub record SoundBook (xs : List Node) : Type 0 where
  pub few : length xs ≤ 256
  pub ordered : Ordered xs
  pub distinct : Distinct xs

-- no node changes or leaves: the later book has the nodes of the earlier at their places, and maybe more
abbrev pub Grows : List Node → List Node → Type 0
Grows earlier later = (more : List Node) × (later ≡ earlier ++ more)
