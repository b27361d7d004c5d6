-- What a judge call that was not refused says.
use Rattle.std.proofs.Common.{◌≡◌, ℕ, ◌<◌, Bool, true, false, cond, ltb, leb, ◌↔◌, List, length, Some, None, Ok, Result, sym, refl, ◌∙◌, subst}
use Rattle.std.proofs.lemmas.Bool.{ltb-true}
use Rattle.rules.specs.declared.node.Node.{Node}
use Rattle.rules.specs.declared.node.Place.{Place}
use Rattle.semantics.specs.Lassos.{Lasso, unrolled}
use Rattle.semantics.specs.Meaning.{Holds}
use Rattle.semantics.specs.Rules.{rule_at}
use Rattle.judging.specs.Judging.{needed, judge_fault, Judges, refused, judged}
use Rattle.judging.specs.declared.fault.JudgeFault.{JudgeFault}
use Rattle.judging.specs.declared.fault.JudgeFault.TheVariants.{NotInBook, Short}
use Rattle.judging.specs.declared.fault.LentList.TheVariants.{Work}

-- two answers to one question are one
pub agree : (b d : Bool) {H : Type 0} → (b ≡ true) ↔ H → (d ≡ true) ↔ H → b ≡ d
agree true d p q = sym (q.1 (p.0 refl))
agree false true p q = p.1 (q.0 refl)
agree false false p q = refl

-- a judge call is refused unless its place is in the book
in_book : (book : List Node) (place : Place) (l : Lasso) (work : List ℕ) → judge_fault book place l work ≡ None → place.index < length book
in_book book place l work e = go (ltb place.index (length book)) refl e
  where
    go : (b : Bool) → ltb place.index (length book) ≡ b
        → cond b (cond (leb (needed l) (length work)) None (Some (Short Work (needed l)))) (Some (NotInBook place)) ≡ None → place.index < length book
    go true q e = ltb-true _ _ q
    go false q e = absurd cc

-- what was answered
pub record Outcome (book : List Node) (place : Place) (l : Lasso) (b : Bool) : Type 0 where
  pub inside : place.index < length book
  pub right : (b ≡ true) ↔ Holds (rule_at book place.index) (unrolled l) 0

pub outcome : {book : List Node} {place : Place} {l : Lasso} {before after : List ℕ} {answer : Result Bool JudgeFault} {b : Bool}
    → Judges book place l before answer after → answer ≡ Ok b → Outcome book place l b
outcome (refused f e s) h = absurd cc
outcome {book} {place} {l} {before} {b = b} (judged {yes = v} f e h t) q =
    let same : v ≡ b = cc (sym e ∙ q) in
    record { inside = in_book book place l before f; right = subst (λ b. (b ≡ true) ↔ Holds (rule_at book place.index) (unrolled l) 0) same h }
