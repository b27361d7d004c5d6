-- The whole table is the rule at 0, 1, 2 and so on: antt computes both lists.
use Rattle.std.proofs.Common.{arith}
use Rattle.std.proofs.lemmas.List.FromFn.{get_or-map-range_with_len}
use Rattle.rules.specs.Commands.{length_of}
use Rattle.rules.proofs.command.command_length.Goals as goal

pub returns : goal.returns
returns c = get_or-map-range_with_len length_of 0 256 c.args.byte c.args.byte 0 (omega arith) (omega arith)
