use Rattle.std.proofs.Common.{sym, ◌∙◌, rules}
use Rattle.std.proofs.lemmas.Iterator.{YieldsList-from_slice}
use Rattle.std.proofs.lemmas.Iterator.Search.{position_from_yields_List}
use borrow.Author.Tests.{tests}
use Rattle.rules.specs.Nodes.{same}
use Rattle.rules.proofs.Equal.{same_decides, place_is_position}
use Rattle.rules.proofs.table.place_in.Goals as goal

pub returns-clause-place : goal.returns-clause-place
returns-clause-place c =
    let nodes = c.args.nodes.now in
    position_from_yields_List (λ x. same x c.args.node) _ _ _ c.position.ensures.ran (YieldsList-from_slice nodes cc) (λ x b q k. search (rules, tests))
    ∙ sym (place_is_position c.args.node nodes)

pub returns-clause-equal : goal.returns-clause-equal
returns-clause-equal c = same_decides
