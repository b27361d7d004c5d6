use Rattle.std.proofs.Common.{refl, arith}
use Rattle.tableau.specs.Stepping.{lists, standing}
use Rattle.listing.specs.Listing.{stops, goes_on}
use Rattle.listing.proofs.Chains.{Goes, running_goes}
use Rattle.listing.proofs.step_on.Goals as goal

gone : (c : goal.In-Running) → Goes (standing c.loop-finished.current) (standing c.in-Running.next) (lists c.args.sheet.now c.step_once.new.states c.step_once.new.arcs c.step_once.new.pending)
gone c = running_goes (standing c.loop-finished.current) (standing c.in-Running.next) _ _ c.loop-finished.invariant.0 c.in-Running.ensures

pub returns-in-Finished : goal.returns-in-Finished
returns-in-Finished c = c.loop-finished.invariant.1 _ _ (stops c.in-Finished.ensures refl)

pub loop-finished-smaller : goal.loop-finished-smaller
loop-finished-smaller c = omega (arith, (gone c).steps, (gone c).few)

pub loop-finished-preserved : goal.loop-finished-preserved
loop-finished-preserved c = ((gone c).long, λ answer after h. c.loop-finished.invariant.1 answer after (goes_on c.in-Running.ensures h))

pub returns-in-NoRoom : goal.returns-in-NoRoom
returns-in-NoRoom c = c.loop-finished.invariant.1 _ _ (stops c.in-NoRoom.ensures refl)
