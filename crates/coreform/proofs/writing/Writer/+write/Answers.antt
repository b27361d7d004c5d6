use Rattle.std.proofs.Common.{◌≡◌, ◌-◌, ◌<◌, false, length, get_or, sym, ap, ◌∙◌, subst, arith}
use Rattle.std.proofs.lemmas.List.{length_push}
use Rattle.automata.specs.Sheets.{put}
use Rattle.automata.proofs.Again.{Begins, put_begins, stays_here}
use Rattle.coreform.specs.Recipes.{node_over, stepped}
use Rattle.coreform.specs.declared.recipe.Step.{Step}
use Rattle.coreform.specs.declared.recipe.Step.TheVariants.{Write}
use Rattle.coreform.proofs.Following.{recipe_writes, recipe_lower, reached_end, reached_more, too_long}
use Rattle.coreform.proofs.Memory.{known_grows, known_more, stands_written}
use Rattle.semantics.specs.Rules.{rule_at}
use Rattle.coreform.proofs.writing.Writer.+write.Goals as goal
use Rattle.coreform.proofs.writing.Writer.+write.Goals.{in-Write+in_ok-number-in-Write, in-Put+in_ok-number-in-Put}

-- what the code reads past the last step
abbrev no_step : Step
no_step = Write (record { index = 0 }) false

pub returns-in-Some-clause-writes : goal.returns-in-Some-clause-writes
returns-in-Some-clause-writes t c = stays_here _ _ _ (c.requires.known c.args.polarity c.args.place.index c.in-Some.number (sym c.in-Some.ensures))

pub write-requires : goal.write-requires
write-requires t c =
    let sound = c.nodes.ensures.sound in
    let inv = c.loop-step.invariant in
    let here = c.requires.entered in
    let lower = recipe_lower _ _ sound.ordered c.nodes.ensures.nodes c.args.place.index here c.args.polarity _ (c.as_slice-step-items.ensures.value ∙ c.recipe_of.ensures.steps) c.loop-step.step-index no_step c.in-Write.a c.in-Write.p c.loop-step-test.true c.in-Write.is in
    let measured = c.decreases in
    (omega arith, rw inv.book (omega arith, inv.known))

pub returns-in_err-number-in-Write-clause-writes : goal.returns-in_err-number-in-Write-clause-writes
returns-in_err-number-in-Write-clause-writes t c =
    let book = c.args.self.now.book.now in
    let inv = c.loop-step.invariant in
    let whole = recipe_writes book _ c.nodes.ensures.sound.ordered c.nodes.ensures.nodes c.args.place.index c.requires.entered c.args.polarity _ (c.as_slice-step-items.ensures.value ∙ c.recipe_of.ensures.steps) c.args.self.now.draft.items in
    let lost : 64 < length (stepped (rule_at book) (get_or c.as_slice-step-items.result.now c.loop-step.step-index no_step) c.loop-step.made.items c.loop-step.self.draft.items).sheet = rw (c.in-Write.is, ← inv.book) c.in_err-number-in-Write.ensures.writes in
    rw c.from_residual.ensures (too_long (rule_at book) _ _ c.loop-step.step-index c.loop-step.made.items c.loop-step.self.draft.items inv.reached no_step c.loop-step-test.true _ whole 64 lost)

pub returns-in_err-number-in-Put-clause-writes : goal.returns-in_err-number-in-Put-clause-writes
returns-in_err-number-in-Put-clause-writes t c =
    let book = c.args.self.now.book.now in
    let inv = c.loop-step.invariant in
    let whole = recipe_writes book _ c.nodes.ensures.sound.ordered c.nodes.ensures.nodes c.args.place.index c.requires.entered c.args.polarity _ (c.as_slice-step-items.ensures.value ∙ c.recipe_of.ensures.steps) c.args.self.now.draft.items in
    let over : c.node_over.result ≡ node_over c.in-Put.node c.loop-step.made.items = c.node_over.ensures ∙ ap (node_over c.in-Put.node) c.as_slice.ensures.value in
    let lost : 64 < length (stepped (rule_at book) (get_or c.as_slice-step-items.result.now c.loop-step.step-index no_step) c.loop-step.made.items c.loop-step.self.draft.items).sheet = rw (c.in-Put.is, ← over) c.in_err-number-in-Put.ensures.drafted in
    rw c.from_residual-in_err-number-in-Put.ensures (too_long (rule_at book) _ _ c.loop-step.step-index c.loop-step.made.items c.loop-step.self.draft.items inv.reached no_step c.loop-step-test.true _ whole 64 lost)

pub loop-step-preserved : goal.loop-step-preserved
loop-step-preserved t c =
    let rule = rule_at c.args.self.now.book.now in
    let list = c.loop-step.made.items in
    let draft = c.loop-step.self.draft.items in
    let inv = c.loop-step.invariant in
    let more = reached_more rule c.as_slice-step-items.result.now c.args.self.now.draft.items c.loop-step.step-index list draft inv.reached no_step c.loop-step-test.true in
    elim c.match-step.branch [
      | in-Write+in_ok-number-in-Write w ↦
          let wrote = w.in_ok-number-in-Write.ensures in
          rw (w.self-is, c.push.ensures.items, w.number-is) record {
            reached = more w.write.new.self.draft.items _ (ap (λ s. stepped rule s list draft) w.in-Write.is ∙ rw (← inv.book) wrote.writes);
            known = rw (← inv.book) wrote.known;
            book = w.write.ensures.book ∙ inv.book;
            long = omega (arith, length_push list w.in_ok-number-in-Write.number, inv.long);
          }
      | in-Put+in_ok-number-in-Put w ↦
          let wrote = w.in_ok-number-in-Put.ensures.drafted in
          let over : w.node_over.result ≡ node_over w.in-Put.node list = w.node_over.ensures ∙ ap (node_over w.in-Put.node) w.as_slice.ensures.value in
          let puts = ap (λ s. stepped rule s list draft) w.in-Put.is ∙ ap (λ n. put n draft) (sym over) in
          rw (w.self-is, c.push.ensures.items, w.number-is) record {
            reached = more w.put.new.draft.items _ (puts ∙ wrote);
            known = known_grows _ draft w.put.new.draft.items c.loop-step.self.numbers (subst (Begins draft) (ap (λ w. w.sheet) wrote) (put_begins _ draft)) inv.known;
            book = inv.book;
            long = omega (arith, length_push list w.in_ok-number-in-Put.number, inv.long);
          }
    ]

pub returns : goal.returns
returns t c =
    let book = c.args.self.now.book.now in
    let draft = c.loop-step.self.draft.items in
    let inv = c.loop-step.invariant in
    let end = c.loop-step-test.false in
    let here = c.loop-step.auto.step-index-end in
    let whole = recipe_writes book _ c.nodes.ensures.sound.ordered c.nodes.ensures.nodes c.args.place.index c.requires.entered c.args.polarity _ (c.as_slice-step-items.ensures.value ∙ c.recipe_of.ensures.steps) c.args.self.now.draft.items in
    let wrote = sym whole ∙ reached_end (rule_at book) _ _ c.loop-step.step-index c.loop-step.made.items draft inv.reached end (omega (arith, inv.long)) in
    let number : get_or c.loop-step.made.items (length c.loop-step.made.items - 1) 0 ≡ get_or c.deref.result.now (c.len.result - 1) 0 = ap (λ xs. get_or xs (length c.loop-step.made.items - 1) 0) (sym c.deref.ensures.0) ∙ ap (λ n. get_or c.deref.result.now (n - 1) 0) (sym c.len.ensures.value) in
    let root = wrote ∙ ap (λ k. record { sheet = draft; root = k }) number in
    record {
      writes = root;
      known = known_more book draft c.loop-step.self.numbers c.set.new.self c.args.polarity c.args.place.index _ inv.known c.set.ensures (stands_written _ c.args.self.now.draft.items draft _ root);
      book = inv.book;
    }
