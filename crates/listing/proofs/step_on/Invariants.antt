use Rattle.std.proofs.Common.{◌≡◌, ◌-◌, None}
use Rattle.tableau.specs.Stepping.{Lists, lists, standing, short_list, Answer}
use Rattle.listing.specs.Listing.{StepsOn}
use Rattle.listing.proofs.step_on.Given as goal

abbrev pub invariant-loop-finished : goal.invariant-loop-finished
invariant-loop-finished l =
    (short_list (standing l.current) (lists l.sheet l.states l.arcs l.pending) ≡ None)
    × ((answer : Answer) (after : Lists) → StepsOn (standing l.current) (lists l.sheet l.states l.arcs l.pending) answer after → StepsOn (standing l.initial.current) (lists l.initial.sheet l.initial.states l.initial.arcs l.initial.pending) answer after)

abbrev pub decreases-loop-finished : goal.decreases-loop-finished
decreases-loop-finished l = 4294967295 - l.current.totals.steps
