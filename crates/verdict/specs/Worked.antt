-- Judgments and listings worked on paper, from the command bytes on.
use Rattle.std.specs.Prelude.{◌≡◌, ℕ, Bool, true, false, ◌↔◌, List, [], ◌∷◌, Ok}
use Rattle.std.specs.List.{AllByRecursion}
use Rattle.rules.specs.Reading.{rule, Reads}
use Rattle.rules.specs.declared.node.Node.{Node}
use Rattle.rules.specs.declared.node.Place.{Place}
use Rattle.semantics.specs.Lassos.{Lasso, unrolled}
use Rattle.semantics.specs.Meaning.{Holds}
use Rattle.semantics.specs.Rules.{rule_at}
use Rattle.automata.specs.Steps.{after}
use Rattle.coreform.specs.Forms.{form_at}
use Rattle.judging.specs.Judging.{Judges}
use Rattle.tableau.specs.Beginning.{begun}
use Rattle.tableau.specs.Stepping.{Standing, Lists, standing_at}
use Rattle.verdict.specs.Logs.{done, TranslationLog}

-- a rule file, a recording and the verdict
pub record Judgment : Type 0 where
  pub file : List ℕ
  pub recording : Lasso
  pub verdict : Bool

-- a rule file, the words and the loop start of a recording, and the verdict
abbrev pub judgment : List ℕ → List ℕ → ℕ → Bool → Judgment
judgment file words start verdict = record { file = file; recording = record { words = words; start = start }; verdict = verdict }

-- the rule files, each by its commands: p0, p1, p0 until p1
abbrev pub p0_until_p1 : List ℕ
p0_until_p1 = 0x10 ∷ 0 ∷ 0 ∷ 0x10 ∷ 0 ∷ 1 ∷ 0x25 ∷ 0 ∷ 0 ∷ 0 ∷ 1 ∷ []

-- p0, p1, p0 weak until p1
abbrev pub p0_weak_until_p1 : List ℕ
p0_weak_until_p1 = 0x10 ∷ 0 ∷ 0 ∷ 0x10 ∷ 0 ∷ 1 ∷ 0x27 ∷ 0 ∷ 0 ∷ 0 ∷ 1 ∷ []

-- p0, eventually p0
abbrev pub eventually_p0 : List ℕ
eventually_p0 = 0x10 ∷ 0 ∷ 0 ∷ 0x13 ∷ 0 ∷ 0 ∷ []

-- p0, eventually p0, always eventually p0
abbrev pub always_eventually_p0 : List ℕ
always_eventually_p0 = 0x10 ∷ 0 ∷ 0 ∷ 0x13 ∷ 0 ∷ 0 ∷ 0x14 ∷ 0 ∷ 1 ∷ []

-- true
abbrev pub just_true : List ℕ
just_true = 0x00 ∷ []

-- false
abbrev pub just_false : List ℕ
just_false = 0x01 ∷ []

-- p0, always p0
abbrev pub always_p0 : List ℕ
always_p0 = 0x10 ∷ 0 ∷ 0 ∷ 0x14 ∷ 0 ∷ 0 ∷ []

-- p0, next p0
abbrev pub next_p0 : List ℕ
next_p0 = 0x10 ∷ 0 ∷ 0 ∷ 0x12 ∷ 0 ∷ 0 ∷ []

-- p0, p0 or p0
abbrev pub p0_or_p0 : List ℕ
p0_or_p0 = 0x10 ∷ 0 ∷ 0 ∷ 0x21 ∷ 0 ∷ 0 ∷ 0 ∷ 0 ∷ []

-- p0, not p0, p0 and not p0
abbrev pub p0_and_not_p0 : List ℕ
p0_and_not_p0 = 0x10 ∷ 0 ∷ 0 ∷ 0x11 ∷ 0 ∷ 0 ∷ 0x20 ∷ 0 ∷ 0 ∷ 0 ∷ 1 ∷ []

-- p0, not p0, not p0 and p0
abbrev pub not_p0_and_p0 : List ℕ
not_p0_and_p0 = 0x10 ∷ 0 ∷ 0 ∷ 0x11 ∷ 0 ∷ 0 ∷ 0x20 ∷ 0 ∷ 1 ∷ 0 ∷ 0 ∷ []

-- a rule file, and how many states, arcs, mark sets and steps its listing has
pub record Listing : Type 0 where
  pub file : List ℕ
  pub states : ℕ
  pub arcs : ℕ
  pub sets : ℕ
  pub steps : ℕ

-- a rule file, and its states, arcs, mark sets and steps
abbrev pub listing : List ℕ → ℕ → ℕ → ℕ → ℕ → Listing
listing file states arcs sets steps = record { file = file; states = states; arcs = arcs; sets = sets; steps = steps }

-- a line of the table
pub data Line : Type 0 where
  judges : Judgment → Line
  lists : Listing → Line

-- the table: verdicts, and listings by their counts
abbrev pub table : List Line
table =
    judges (judgment p0_until_p1 (1 ∷ 1 ∷ 2 ∷ []) 2 true)
    ∷ judges (judgment p0_until_p1 (1 ∷ []) 0 false)
    ∷ judges (judgment p0_weak_until_p1 (1 ∷ []) 0 true)
    ∷ judges (judgment eventually_p0 (1 ∷ 0 ∷ []) 1 true)
    ∷ judges (judgment always_eventually_p0 (1 ∷ 0 ∷ []) 1 false)
    ∷ lists (listing just_true 2 3 0 4)
    ∷ lists (listing just_false 0 0 0 1)
    ∷ lists (listing p0_until_p1 3 6 1 12)
    ∷ lists (listing always_p0 1 2 0 8)
    ∷ lists (listing p0_or_p0 2 3 0 7)
    ∷ lists (listing next_p0 3 4 0 6)
    ∷ lists (listing p0_and_not_p0 0 0 0 3)
    ∷ lists (listing not_p0_and_p0 0 0 0 3)
    ∷ lists (listing eventually_p0 3 6 1 12)
    ∷ []

-- the file is read into an empty book, the rule holds of the recording exactly where the verdict says so,
-- and no judge call of it answers otherwise
pub record Right (j : Judgment) : Type 0 where
  pub book : List Node
  pub place : Place
  pub reads : Reads [] j.file (rule place) book
  pub holds : (j.verdict ≡ true) ↔ Holds (rule_at book place.index) (unrolled j.recording) 0
  pub judges : {before after : List ℕ} {verdict : Bool} → Judges book place j.recording before (Ok verdict) after → verdict ≡ j.verdict

-- the numbers are those of the listing
pub record Numbered (line : Listing) (numbers : Standing) : Type 0 where
  pub states : numbers.states ≡ line.states
  pub arcs : numbers.arcs ≡ line.arcs
  pub sets : numbers.sets ≡ line.sets
  pub steps : numbers.steps ≡ line.steps

-- the file is read into an empty book, the defined steps from the core form of its rule end with these numbers,
-- and every finished translation of it has them
pub record Listed (line : Listing) : Type 0 where
  pub book : List Node
  pub place : Place
  pub reads : Reads [] line.file (rule place) book
  pub ends : (after (form_at book place).sheet (form_at book place).root line.steps).pending ≡ []
  pub numbered : Numbered line (standing_at (begun (form_at book place)) (after (form_at book place).sheet (form_at book place).root line.steps))
  pub translates : {numbers : Standing} {kept : Lists} → TranslationLog book place done numbers kept → Numbered line numbers

-- a line is right
abbrev pub Works : Line → Type 0
Works (judges j) = Right j
Works (lists l) = Listed l

-- every line of the table is right
abbrev pub WorkedTable : Type 0
WorkedTable = AllByRecursion Works table
