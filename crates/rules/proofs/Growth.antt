-- What one more node keeps of a book.
use Rattle.std.proofs.Common.{◌≡◌, ℕ, ◌+◌, ◌<◌, true, List, [], ◌∷◌, ◌++◌, length, set, None, Ok, sym, ap, subst, arith, rules}
use Rattle.std.proofs.lemmas.Grind.{common_steps}
use Rattle.std.proofs.lemmas.List.{length_push, take_more_set}
use Rattle.rules.specs.Decoding.{decoded}
use Rattle.rules.specs.Entering.{missing}
use Rattle.rules.specs.Nodes.{place_of}
use Rattle.rules.specs.Tables.{fits_at, SoundBook, listed}
use Rattle.rules.specs.declared.node.Node.{Node}
use Rattle.rules.specs.declared.table.Table.{Table}
use Rattle.rules.proofs.Equal.{absent}

-- a node that is decoded fits behind the places that have its operands
pub decoded_fits : (bytes : List ℕ) (n : Node) (l k : ℕ) → Ok (n, l) ≡ decoded bytes → missing n k ≡ None → fits_at n k ≡ true
decoded_fits bytes n l k e m = search rules

-- a sound book with room for a node that fits and is new
pub sound_push : (xs : List Node) (n : Node) → SoundBook xs → length xs < 256 → fits_at n (length xs) ≡ true → place_of n xs ≡ None → SoundBook (xs ++ n ∷ [])
sound_push xs n s room fits new = record {
  few = grind (arith, common_steps);
  ordered = λ k h. grind (arith, common_steps, s.ordered k);
  distinct = λ j k l h. grind (arith, common_steps, s.distinct j k, absent n 0 xs new j);
}

-- the table with one more node
abbrev pub with_node : Table → Node → Table
with_node t n = record { nodes = set t.nodes t.count n; count = t.count + 1 }

-- what holds of the table of a book
abbrev pub SoundTable : Table → Type 0
SoundTable t = (t.count ≡ length (listed t)) × SoundBook (listed t)

pub sound_table : (t : Table) (n : Node) → SoundTable t → t.count < 256 → length t.nodes ≡ 256 → fits_at n (length (listed t)) ≡ true → place_of n (listed t) ≡ None → SoundTable (with_node t n)
sound_table t n s room long fits new =
    let more : listed (with_node t n) ≡ listed t ++ n ∷ [] = take_more_set t.nodes t.count n (omega arith) in
    (omega (arith, s.0, ap length more, length_push (listed t) n), subst SoundBook (sym more) (sound_push (listed t) n s.1 (omega (arith, s.0)) fits new))
