-- What is said of a recording that its text says.
use Rattle.std.specs.Prelude.{◌≡◌, Bool, true, ◌↔◌, List, length, Ok, Err, vec_items, Result}
use Rattle.rules.specs.declared.node.Node.{Node}
use Rattle.rules.specs.declared.node.Place.{Place}
use Rattle.semantics.specs.Lassos.{Lasso, unrolled}
use Rattle.semantics.specs.Meaning.{Holds}
use Rattle.semantics.specs.Rules.{rule_at}
use Rattle.models.specs.Scans.{Checked}
use Rattle.models.specs.PackedWords.{packed_check, of_packed}
use Rattle.models.specs.EdgeWords.{edges_check, of_edges}
use Rattle.linecheck.specs.declared.text.Recorded.{Recorded}
use Rattle.linecheck.specs.declared.text.Recorded.TheVariants.{Packed, Edges}
use Rattle.linecheck.specs.declared.judged.Judged.{Judged}
use Rattle.linecheck.specs.declared.fault.NoVerdict.{NoVerdict}
use Rattle.linecheck.specs.declared.fault.NoVerdict.TheVariants.{Recording}

-- the answer is whether the rule at the place holds of the lasso, at its first scan
abbrev pub Says : List Node → Place → Lasso → Bool → Type 0
Says book place l answer = (answer ≡ true) ↔ Holds (rule_at book place.index) (unrolled l) 0

-- the lasso of a recording that passes the check of its kind
abbrev pub lasso_of : Recorded → Lasso
lasso_of (Packed words start) = of_packed (vec_items words) start
lasso_of (Edges edges count start) = of_edges (vec_items edges) count start

-- what the check of its kind answers
abbrev pub check_of : Recorded → Checked
check_of (Packed words start) = packed_check (vec_items words) start
check_of (Edges edges count start) = edges_check (vec_items edges) count start

-- what a check refuses is refused, for that cause
abbrev pub Passes : Checked → Result Judged NoVerdict → Type 0
Passes (Ok u) r = Unit {0}
Passes (Err fault) r = r ≡ Err (Recording fault)

-- the number of scans, the loop start and the verdict are those of the lasso
pub record Reports (book : List Node) (place : Place) (l : Lasso) (told : Judged) : Type 0 where
  pub scans : told.scans ≡ length l.words
  pub start : told.loop_start ≡ l.start
  pub verdict : Says book place l told.holds
