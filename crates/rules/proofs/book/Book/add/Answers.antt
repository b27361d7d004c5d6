use Rattle.std.proofs.Common.{arith, rules}
use Rattle.rules.proofs.Growth.{sound_table}
use Rattle.rules.proofs.book.Book.add.Goals as goal

pub invariant_of-self : goal.invariant_of-self
invariant_of-self c = sound_table c.self.inside.table c.args.node c.self.invariant (omega arith) (omega arith) (rw c.self.view_is c.requires) (search rules)

pub returns-clause-sound : goal.returns-clause-sound
returns-clause-sound c = (sound_table c.self.inside.table c.args.node c.self.invariant (omega arith) (omega arith) (rw c.self.view_is c.requires) (search rules)).1
