use Rattle.std.proofs.Common.{sym, ◌∙◌}
use Rattle.tableau.proofs.Gathered.{signals_in, signals_out}
use Rattle.tableau.proofs.sheets.Sheet.signals.Goals as goal
use Rattle.tableau.proofs.sheets.Sheet.signals.Goals.{then-contains, else-contains}

pub loop-k-preserved : goal.loop-k-preserved
loop-k-preserved g c bit h =
    elim c.if-contains.branch [
      | then-contains w ↦
          signals_in bit c.args.self.now.nodes.now c.args.old c.loop-k.k _ _ (c.loop-k.invariant bit h) _ _ w.node_at.ensures (h _ _ w.literal-signals.ensures) w.signals-is
          (sym w.if-contains.true ∙ c.contains.ensures)
      | else-contains w ↦
          signals_out bit c.args.self.now.nodes.now c.args.old c.loop-k.k _ _ (c.loop-k.invariant bit h) w.signals-is (sym w.if-contains.false ∙ c.contains.ensures)
    ]
