-- What is told of the steps made.
use Rattle.std.specs.Prelude.{ℕ}
use Rattle.tableau.specs.Stepping.{Answer, progress}
use Rattle.tableau.specs.Walks.{answer_at}
use Rattle.tableau.specs.declared.walks.Stopped.{Stopped}

-- what step answers of a translation with these core nodes and mark sets, where its steps have stopped
abbrev pub stopped_told : ℕ → ℕ → Stopped → Answer
stopped_told cores sets s = progress (answer_at s.lack s.counts.pending) (record {
  cores = cores;
  sets = sets;
  steps = s.counts.steps;
  states = s.counts.states;
  arcs = s.counts.arcs;
  pending = s.counts.pending;
})
