-- Which refusal of a judge call stands.
use Rattle.std.proofs.Common.{◌≡◌, ℕ, ◌<◌, ◌≤◌, List, length, Some, None, ◌∙◌}
use Rattle.std.proofs.lemmas.Bool.{lt-ltb, le-ltb, le-leb, lt-leb, cond-true, cond-false}
use Rattle.rules.specs.declared.node.Node.{Node}
use Rattle.rules.specs.declared.node.Place.{Place}
use Rattle.semantics.specs.Lassos.{Lasso}
use Rattle.judging.specs.Judging.{needed, judge_fault}
use Rattle.judging.specs.declared.fault.JudgeFault.TheVariants.{NotInBook, Short}
use Rattle.judging.specs.declared.fault.LentList.TheVariants.{Work}

module _ (book : List Node) (place : Place) (l : Lasso) (work : List ℕ) where
  pub fault_place : length book ≤ place.index → judge_fault book place l work ≡ Some (NotInBook place)
  fault_place h = cond-false _ _ _ (le-ltb place.index (length book) h)

  pub fault_short : place.index < length book → length work < needed l → judge_fault book place l work ≡ Some (Short Work (needed l))
  fault_short h s = cond-true _ _ _ (lt-ltb place.index (length book) h) ∙ cond-false _ _ _ (lt-leb (needed l) (length work) s)

  pub fault_none : place.index < length book → needed l ≤ length work → judge_fault book place l work ≡ None
  fault_none h s = cond-true _ _ _ (lt-ltb place.index (length book) h) ∙ cond-true _ _ _ (le-leb (needed l) (length work) s)
