-- The words of edges, one for each scan, and 0 after the last scan.
use Rattle.std.proofs.Common.{◌≡◌, ℕ, ◌<◌, ◌≤◌, List, get_or, map, arith}
use Rattle.std.specs.List.{range_with_len}
use Rattle.std.proofs.lemmas.List.FromFn.{length-map-range_with_len, get_or-map-range_with_len}
use Rattle.std.proofs.lemmas.List.{get_or_past}
use Rattle.models.specs.EdgeWords.{word_at}
use Rattle.models.specs.declared.edges.Edge.{Edge}

pub word_within : (es : List Edge) (n i : ℕ) → i < n → get_or (map (word_at es) (range_with_len 0 n)) i 0 ≡ word_at es i
word_within es n i h = get_or-map-range_with_len (word_at es) 0 n i i 0 h (omega arith)

pub word_past : (es : List Edge) (n i : ℕ) → n ≤ i → get_or (map (word_at es) (range_with_len 0 n)) i 0 ≡ 0
word_past es n i h = get_or_past (map (word_at es) (range_with_len 0 n)) i 0 (omega (arith, length-map-range_with_len (word_at es) 0 n))

pub ruleset edge_words = (length-map-range_with_len, word_within, word_past)
