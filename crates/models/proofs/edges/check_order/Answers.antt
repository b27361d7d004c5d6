use Rattle.std.proofs.Common.{◌^◌, ◌<◌, get_or, ◌∙◌, rules, below_more}
use Rattle.models.specs.EdgeWords.{no_edge}
use Rattle.models.proofs.Orderly.{fault_later}
use Rattle.models.proofs.edges.check_order.Goals as goal

pub loop-index-preserved : goal.loop-index-preserved
loop-index-preserved c =
    let es = c.args.edges.now in
    let small : (get_or es c.loop-index.index no_edge).word < 2 ^ 64 = search rules in (
      fault_later es c.loop-index.index c.loop-index.low c.args.count c.loop-index-test.true c.if-edge-low.false c.if-edge-count.false ∙ c.loop-index.invariant.0,
      below_more _ _ c.loop-index.invariant.1 small,
    )
