-- One verdict: the law over all logs.
use Rattle.std.specs.Prelude.{◌≡◌, ℕ, ◌<◌, Bool, true, false, ◌↔◌, List, [], length, Ok, Result}
use Rattle.automata.specs.Cores.{core_of, Satisfied}
use Rattle.automata.specs.Sheets.{core_form}
use Rattle.automata.specs.Steps.{after}
use Rattle.rules.specs.Entering.{Enters}
use Rattle.rules.specs.Reading.{Reading, Reads}
use Rattle.rules.specs.Tables.{SoundBook, Grows}
use Rattle.rules.specs.declared.fault.EnterFault.{EnterFault}
use Rattle.rules.specs.declared.node.Node.{Node}
use Rattle.rules.specs.declared.node.Place.{Place}
use Rattle.semantics.specs.Lassos.{Lasso, unrolled}
use Rattle.semantics.specs.Meaning.{Holds}
use Rattle.semantics.specs.Rules.{Rule, rule_at, SameRule}
use Rattle.tableau.specs.Stepping.{Standing, Lists, config}
use Rattle.judging.specs.Judging.{Judges}
use Rattle.verdict.specs.Logs.{BookLog, Answered, done, TranslationLog}

-- recordings of whatever kind are the same when their counts, loop starts and words are
pub record SameRecording (l l' : Lasso) : Type 0 where
  pub words : l.words ≡ l'.words
  pub start : l.start ≡ l'.start

-- the same judge calls were answered in the same way
abbrev pub SameAnswers : {book book' : List Node} → BookLog book → BookLog book' → Type 0
SameAnswers log log' = (place : Place) (recording : Lasso) (verdict : Bool) → Answered log place recording verdict ↔ Answered log' place recording verdict

-- what holds of all books, logs and translations
pub record OneVerdict : Type 0 where
  -- every book that exists is sound
  pub book_sound : {book : List Node} → BookLog book → SoundBook book
  -- an enter call leaves every node at its place
  pub nodes_stay : {before after : List Node} {bytes : List ℕ} {answer : Result (Place × ℕ) EnterFault}
      → BookLog before → Enters before bytes answer after → Grows before after
  -- reading counts as its enter calls, and has one outcome
  pub reading_enters : {before after : List Node} {file : List ℕ} {answer : Reading}
      → (log : BookLog before) → Reads before file answer after → (log' : BookLog after) × SameAnswers log log'
  pub reading_once : {before after after' : List Node} {file : List ℕ} {answer answer' : Reading}
      → Reads before file answer after → Reads before file answer' after' → (answer ≡ answer') × (after ≡ after')
  -- two places hold the same rule exactly when the rules at them are one tree
  pub same_rule : {book book' : List Node} → BookLog book → BookLog book' → (k k' : ℕ) → k < length book → k' < length book'
      → SameRule book book' k k' ↔ (rule_at book k ≡ rule_at book' k')
  -- a judge call that is not refused enters the log with its answer
  pub judging_enters : {book : List Node} {place : Place} {l : Lasso} {before after : List ℕ} {verdict : Bool}
      → BookLog book → Judges book place l before (Ok verdict) after → (log : BookLog book) × Answered log place l verdict
  -- a judge call that was not refused said yes exactly when the rule at its place holds of the recording
  pub judged_right : {book : List Node} (log : BookLog book) (place : Place) (l : Lasso) (verdict : Bool)
      → Answered log place l verdict → (place.index < length book) × ((verdict ≡ true) ↔ Holds (rule_at book place.index) (unrolled l) 0)
  -- in two logs, or at two positions of one, the same rule on the same recording got the same answer
  pub judged_alike : {book book' : List Node} (log : BookLog book) (log' : BookLog book') (place place' : Place) (l l' : Lasso) (verdict verdict' : Bool)
      → SameRule book book' place.index place'.index → SameRecording l l'
      → Answered log place l verdict → Answered log' place' l' verdict' → verdict ≡ verdict'
  -- the core form of a rule holds exactly where the rule does, and that of its denial exactly where it does not
  pub core_right : (l : Lasso) → l.start < length l.words → (r : Rule) (i : ℕ)
      → (Holds r (unrolled l) i ↔ Satisfied (core_of r true) (unrolled l) i) × ((¬ Holds r (unrolled l) i) ↔ Satisfied (core_of r false) (unrolled l) i)
  -- a finished translation lists what the defined steps make from the core form of its rule
  pub listed_defined : {book : List Node} {place : Place} {numbers : Standing} {kept : Lists} → TranslationLog book place done numbers kept
      → let form = core_form (rule_at book place.index) in
      (config numbers kept ≡ after form.sheet form.root numbers.steps) × ((after form.sheet form.root numbers.steps).pending ≡ [])
  -- one rule translated to the end twice, in one book or in two, with whatever allowances and lists, has equal states,
  -- equal arcs and equal step counts
  pub listed_alike : {book book' : List Node} {place place' : Place} {numbers numbers' : Standing} {kept kept' : Lists}
      → SameRule book book' place.index place'.index → TranslationLog book place done numbers kept → TranslationLog book' place' done numbers' kept'
      → (numbers ≡ numbers') × (config numbers kept ≡ config numbers' kept')
