use Rattle.std.proofs.Common.{rules}
use Rattle.std.proofs.lemmas.List.Sorted.{IsPartitionPoint-from_clause}
use Rattle.models.proofs.Parted.{at_or_before, PartedAt, later_parted, word_before}
use Rattle.models.proofs.edges.Edges.word_at.Goals as goal

pub returns : goal.returns
returns c =
    let me = c.args.self.now in
    let point : PartedAt c.args.scan _ c.partition_point-later.result =
    IsPartitionPoint-from_clause (at_or_before c.args.scan) _ _ c.partition_point-later.ensures.partitioned (later_parted me.edges.now me.count me.loop_start c.args.scan me.passed) (λ a r f k. search rules) in
    word_before me.edges.now me.count me.loop_start c.args.scan me.passed _ point c.partition_point-later.ensures.bound
