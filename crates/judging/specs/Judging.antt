-- A judge call: whether the rule at a place holds of a recording, and what the work list says afterwards.
use Rattle.std.specs.Prelude.{◌≡◌, ℕ, ◌+◌, ◌*◌, ◌<◌, ◌≤◌, Bool, true, if◌then◌else◌, ◌↔◌, List, length, drop, Some, None, Ok, Err, Option, Result, nat_le, nat_lt, slice_index}
use Rattle.rules.specs.declared.node.Node.{Node}
use Rattle.rules.specs.declared.node.Place.{Place}
use Rattle.semantics.specs.Lassos.{Lasso, unrolled}
use Rattle.semantics.specs.Meaning.{bit, Holds}
use Rattle.semantics.specs.Rules.{rule_at}
use Rattle.judging.specs.declared.fault.JudgeFault.{JudgeFault}
use Rattle.judging.specs.declared.fault.JudgeFault.TheVariants.{NotInBook, Short}
use Rattle.judging.specs.declared.fault.LentList.TheVariants.{Work}

-- four words for each scan
abbrev pub needed : Lasso → ℕ
needed l = 4 * length l.words

-- the refusal that stands, the place before the list
abbrev pub judge_fault : List Node → Place → Lasso → List ℕ → Option JudgeFault
judge_fault book place l work =
    if nat_lt place.index (length book)
    then if nat_le (needed l) (length work) then None else Some (Short Work (needed l))
    else Some (NotInBook place)

-- word 4 × i + j has in bit b the truth of place 64 × j + b at scan i, and 0 above the judged place; later words stay
pub record Tells (book : List Node) (place : Place) (l : Lasso) (before after : List ℕ) : Type 0 where
  pub truths : (i j b : ℕ) → i < length l.words → j < 4 → b < 64
      → (bit (slice_index after (4 * i + j)) b ≡ 1) ↔ ((64 * j + b ≤ place.index) × Holds (rule_at book (64 * j + b)) (unrolled l) i)
  pub rest : drop (needed l) after ≡ drop (needed l) before
  pub long : length after ≡ length before

-- a judge call: the book, the place, the recording, the work list before, the answer, the work list after
pub data Judges (book : List Node) (place : Place) (l : Lasso) (before : List ℕ) (answer : Result Bool JudgeFault) (after : List ℕ) : Type 0 where
  refused : {fault : JudgeFault} → judge_fault book place l before ≡ Some fault → answer ≡ Err fault → after ≡ before
      → Judges book place l before answer after
  judged : {yes : Bool} → judge_fault book place l before ≡ None → answer ≡ Ok yes
      → (yes ≡ true) ↔ Holds (rule_at book place.index) (unrolled l) 0
      → Tells book place l before after → Judges book place l before answer after
