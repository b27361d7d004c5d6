use Rattle.std.proofs.Common.{◌≡◌, ℕ, ◌+◌, ◌<◌, length, get_or, take, ap, Decides, ◌∙◌, subst, arith, length-take}
use Rattle.std.proofs.lemmas.List.{get_or-take}
use Rattle.rules.specs.declared.node.Node.TheVariants.{True}
use Rattle.judging.specs.Columns.{Column}
use Rattle.judging.specs.Truths.{told}
use Rattle.judging.proofs.Tabled.{table_more}
use Rattle.judging.proofs.judge.fill_table.Goals as goal

pub loop-index-preserved : goal.loop-index-preserved
loop-index-preserved g c =
    let b = c.args.book.now in
    let sound = c.nodes.ensures.sound in
    let l = g.R.Recording.meaning c.args.recording.now in
    let inside = (g.R.Recording.sound c.args.recording.now).inside in
    let k = c.loop-index.index in
    let end = c.args.place.index + 1 in
    let below : k < end = omega (arith, c.loop-index-test.true, length-take end c.nodes.result.now) in
    let here : k < length b = omega (arith, c.requires.entered) in
    let node : get_or (take end c.nodes.result.now) k True ≡ get_or b k True = get_or-take end c.nodes.result.now k True below ∙ ap (λ ns. get_or ns k True) c.nodes.ensures.nodes in
    let work = c.fill_column.new.work in
    let column = subst (λ n. (i : ℕ) → i < length l.words → Decides (told work i k) (Column n l c.loop-index.work i)) node c.fill_column.ensures.column in
    (table_more b sound.ordered sound.few l inside k c.loop-index.work work c.loop-index.invariant.0 here column c.fill_column.ensures.others, c.fill_column.ensures.rest ∙ c.loop-index.invariant.1)
