use Rattle.std.proofs.Common.{rules}
use Rattle.std.specs.Cmp.Rules.{comparing}
use Rattle.std.proofs.lemmas.Bool.Decides.{same_from_decides}
use Rattle.rules.proofs.Equal.{same_decides}
use Rattle.rules.proofs.table.fn.place_in.position.Goals as goal

pub returns : goal.returns
returns c = same_from_decides _ _ (search (comparing, rules)) (same_decides _ _)
