-- What is answered where something is written on a draft.
use Rattle.std.specs.Prelude.{◌≡◌, ℕ, ◌<◌, List, length, Option, MatchOption}
use Rattle.automata.specs.Sheets.{Written}
use Rattle.automata.specs.declared.nodes.CoreNode.{CoreNode}
use Rattle.coreform.specs.declared.draft.TheConstants.{MOST_NODES}

-- what was written is on the draft, under the number that was answered; or it has over 64 nodes, and none was answered
abbrev pub Drafted : List CoreNode → Option ℕ → Written → Type 0
Drafted draft answer w = MatchOption answer (MOST_NODES < length w.sheet) (λ k. w ≡ record { sheet = draft; root = k })
