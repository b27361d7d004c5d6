use Rattle.std.proofs.Common.{get_or, vec_items, sym, refl, ap, ◌∙◌}
use Rattle.examples.proofs.Changing.{last_is, changed, unchanged, moved}
use Rattle.examples.proofs.runs.changes.Goals as goal
use Rattle.examples.proofs.runs.changes.Goals.{then-ne+in_ok-push, else-ne}

pub loop-scan-preserved : goal.loop-scan-preserved
loop-scan-preserved c =
    let word = get_or c.args.words.now c.loop-scan.scan 0 in
    elim c.if-ne.branch [
      | then-ne+in_ok-push w ↦
          moved (changed c.loop-scan.invariant (record { scan = c.loop-scan.scan; word = word }) refl refl)
          (ap vec_items w.edges-is ∙ w.in_ok-push.ensures.items) w.last-is
      | else-ne w ↦
          moved (unchanged c.loop-scan.invariant word (last_is _ word (sym c.ne.ensures ∙ w.if-ne.false)) refl) (ap vec_items w.edges-is) w.last-is
    ]
