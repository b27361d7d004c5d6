use Rattle.std.proofs.Common.{◌≡◌, ℕ, ◌^◌, ◌<◌, get_or, drop}
use Rattle.models.specs.EdgeWords.{no_edge, fault_from, edge_fault}
use Rattle.models.proofs.edges.check_order.Given as goal

abbrev pub invariant-loop-index : goal.invariant-loop-index
invariant-loop-index l =
    (fault_from l.index l.low l.count (drop l.index l.edges) ≡ edge_fault l.count l.edges)
    × ((k : ℕ) → k < l.index → (get_or l.edges k no_edge).word < 2 ^ 64)
