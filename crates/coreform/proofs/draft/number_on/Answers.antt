use Rattle.std.proofs.Common.{rules}
use borrow.Author.Tests.{tests}
use Rattle.std.specs.Cmp.Rules.{comparing}
use Rattle.std.proofs.lemmas.Iterator.{YieldsList-from_slice}
use Rattle.std.proofs.lemmas.Iterator.Search.{position_from_yields_List}
use Rattle.std.proofs.lemmas.Bool.Decides.{same_from_decides}
use Rattle.automata.specs.Sheets.{same}
use Rattle.automata.proofs.Again.{same_decides}
use Rattle.coreform.proofs.draft.number_on.Goals as goal

pub returns-clause-position : goal.returns-clause-position
returns-clause-position c = position_from_yields_List (λ x. same x c.args.node) _ _ _ c.position.ensures.ran (YieldsList-from_slice c.args.nodes.now cc) (λ x b q k. (search (rules, tests), same_from_decides b _ (search (comparing, rules, tests)) (same_decides _ _)))

pub returns-clause-equal : goal.returns-clause-equal
returns-clause-equal c = same_decides
