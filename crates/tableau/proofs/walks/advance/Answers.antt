use Rattle.std.proofs.Common.{arith}
use Rattle.tableau.proofs.Walking.{done, spent, no_room_here, one_more}
use Rattle.tableau.proofs.walks.advance.Goals as goal

pub returns-then-counts-eq0 : goal.returns-then-counts-eq0
returns-then-counts-eq0 c = done c.loop.invariant c.if-counts-eq0.true

pub returns-in-Err : goal.returns-in-Err
returns-in-Err c =
    no_room_here c.loop.invariant c.space_in-space.result c.in-Err.lack c.turn.new.states c.turn.new.arcs c.turn.new.pending
    (omega arith) (omega arith) c.space_in-space.ensures c.in-Err.ensures

pub loop-preserved : goal.loop-preserved
loop-preserved c =
    one_more c.loop.invariant c.space_in-space.result c.in-Ok.after c.turn.new.states c.turn.new.arcs c.turn.new.pending
    (omega arith) (omega arith) c.space_in-space.ensures c.in-Ok.ensures

pub returns : goal.returns
returns c = spent c.loop.invariant (omega arith)
