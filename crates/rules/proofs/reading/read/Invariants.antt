use Rattle.std.proofs.Common.{◌-◌, ◌<◌, List, length}
use Rattle.rules.specs.Reading.{Reading, ReadsFrom}
use Rattle.rules.specs.declared.node.Node.{Node}
use Rattle.rules.proofs.reading.read.Given as goal

abbrev pub invariant-loop-place : goal.invariant-loop-place
invariant-loop-place l =
    (l.start < length l.file)
    × ((answer : Reading) (after : List Node) → ReadsFrom l.file l.start l.book answer after → ReadsFrom l.file 0 l.initial.book answer after)

abbrev pub decreases-loop-place : goal.decreases-loop-place
decreases-loop-place l = length l.file - l.start
