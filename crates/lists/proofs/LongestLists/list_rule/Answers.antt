use Rattle.std.proofs.Common.{◌≡◌, List, Vec, length, vec_items, sym, ◌∙◌, subst}
use Rattle.std.specs.Vec.{with_items}
use Rattle.std.proofs.lemmas.List.{with_items_is}
use Rattle.tableau.specs.Stepping.{lists}
use Rattle.listing.specs.Listing.{Listing}
use Rattle.lists.specs.Lent.{lent}
use Rattle.lists.proofs.LongestLists.list_rule.Goals as goal

-- what a lent slice holds in the end is what its vector holds
back : {X Z : Type 0} (v : Vec X Z) (before after : List X) → length after ≡ length before → length before ≡ v.len → after ≡ vec_items (with_items v after)
back v before after same long = sym (with_items_is v after (same ∙ long))

pub returns : goal.returns
returns c =
    let me = c.args.self.now in
    let new = c.list_rule.new in
    let long = c.list_rule.auto in
    let sheet = c.as_mut_slice in
    let states = c.as_mut_slice-2 in
    let arcs = c.as_mut_slice-3 in
    let pending = c.as_mut_slice-4 in
    let before : lists sheet.result.now states.result.now arcs.result.now pending.result.now ≡ lent me =
    (λ i. lists (sheet.ensures.value i) (states.ensures.value i) (arcs.ensures.value i) (pending.ensures.value i)) in
    let sheet_back = back me.sheet sheet.result.now new.sheet long.sheet sheet.ensures.len in
    let states_back = back me.states states.result.now new.states long.states states.ensures.len in
    let arcs_back = back me.arcs arcs.result.now new.arcs long.arcs arcs.ensures.len in
    let pending_back = back me.pending pending.result.now new.pending long.pending pending.ensures.len in
    let after = lists (vec_items (with_items me.sheet new.sheet)) (vec_items (with_items me.states new.states)) (vec_items (with_items me.arcs new.arcs)) (vec_items (with_items me.pending new.pending)) in
    subst (λ l. Listing c.args.file.now l c.list_rule.result after) before
    (subst (λ l. Listing c.args.file.now (lists sheet.result.now states.result.now arcs.result.now pending.result.now) c.list_rule.result l) (λ i. lists (sheet_back i) (states_back i) (arcs_back i) (pending_back i)) c.list_rule.ensures)
