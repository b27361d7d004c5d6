-- Logs: all calls made since a book was opened empty, or since a translation began, in order, refused ones included,
-- with what they were handed and what they answered.
use Rattle.std.specs.Prelude.{◌≡◌, ℕ, Bool, ◌⊎◌, List, [], ◌++◌, Ok, Result}
use Rattle.automata.specs.Steps.{Progressed, finished, running, no_room}
use Rattle.automata.specs.declared.items.Arc.{Arc}
use Rattle.automata.specs.declared.items.Item.{Item}
use Rattle.automata.specs.declared.items.State.{State}
use Rattle.automata.specs.declared.nodes.CoreNode.{CoreNode}
use Rattle.judging.specs.Judging.{Judges}
use Rattle.judging.specs.declared.fault.JudgeFault.{JudgeFault}
use Rattle.rules.specs.Entering.{Enters}
use Rattle.rules.specs.declared.fault.EnterFault.{EnterFault}
use Rattle.rules.specs.declared.node.Node.{Node}
use Rattle.rules.specs.declared.node.Place.{Place}
use Rattle.semantics.specs.Lassos.{Lasso}
use Rattle.tableau.specs.Beginning.{Begins}
use Rattle.tableau.specs.Stepping.{Standing, Lists, lists, refusal, progress, Steps}
use Rattle.tableau.specs.declared.fault.BeginFault.{BeginFault}
use Rattle.tableau.specs.declared.fault.ShortFault.{ShortFault}

-- ---- the log of a book, by its nodes after the newest call; each call is one that meets its contract
pub data BookLog : List Node → Type 0 where
  opened : BookLog []
  entered : {before after : List Node} {bytes : List ℕ} {answer : Result (Place × ℕ) EnterFault}
      → BookLog before → Enters before bytes answer after → BookLog after
  judged : {book : List Node} {place : Place} {recording : Lasso} {before after : List ℕ} {answer : Result Bool JudgeFault}
      → BookLog book → Judges book place recording before answer after → BookLog book
  begun : {book : List Node} {place : Place} {sheet sheet' : List CoreNode} {pending pending' : List Item} {answer : Result Standing BeginFault}
      → BookLog book → Begins book place sheet pending answer sheet' pending' → BookLog book

-- somewhere in the log a judge call of this place on this recording was not refused, and answered this
abbrev pub Answered : {book : List Node} → BookLog book → Place → Lasso → Bool → Type 0
Answered opened place recording verdict = ⊥
Answered (entered log call) place recording verdict = Answered log place recording verdict
Answered (judged {place = p} {recording = l} {answer = a} log call) place recording verdict =
    ((p ≡ place) × (l ≡ recording) × (a ≡ Ok verdict)) ⊎ Answered log place recording verdict
Answered (begun log call) place recording verdict = Answered log place recording verdict

-- ---- the log of a translation
-- whether it is still to be stepped
pub data Phase : Type 0 where
  going done : Phase

-- a translation is done where step answers that it is finished
abbrev pub phase_at : Progressed → Phase
phase_at finished = done
phase_at running = going
phase_at (no_room lack) = going

-- longer lists with the same entries
pub record Longer (kept handed : Lists) : Type 0 where
  pub more : Lists
  pub sheet : handed.sheet ≡ kept.sheet ++ more.sheet
  pub states : handed.states ≡ kept.states ++ more.states
  pub arcs : handed.arcs ≡ kept.arcs ++ more.arcs
  pub pending : handed.pending ≡ kept.pending ++ more.pending

-- of the rule at a place of a book, since its begin: its phase, its numbers, and its lists as the last call left them.
-- A step that is not refused is handed these lists or longer ones with the same entries; a refused one any.
pub data TranslationLog (book : List Node) (place : Place) : Phase → Standing → Lists → Type 0 where
  began : {sheet sheet' : List CoreNode} {pending pending' : List Item} {numbers : Standing} {states : List State} {arcs : List Arc}
      → BookLog book → Begins book place sheet pending (Ok numbers) sheet' pending' → TranslationLog book place going numbers (lists sheet' states arcs pending')
  refused : {numbers : Standing} {kept handed after : Lists} {allowance : ℕ} {fault : ShortFault}
      → TranslationLog book place going numbers kept → Steps numbers handed allowance (refusal fault numbers) after → TranslationLog book place going numbers kept
  stepped : {numbers numbers' : Standing} {kept handed after : Lists} {allowance : ℕ} {answer : Progressed} {phase : Phase}
      → TranslationLog book place going numbers kept → Longer kept handed → Steps numbers handed allowance (progress answer numbers') after
      → phase ≡ phase_at answer → TranslationLog book place phase numbers' after
