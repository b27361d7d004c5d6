-- Reading is entering: it extends a log, and has one outcome.
use Rattle.std.proofs.Common.{◌≡◌, ℕ, ◌+◌, List, drop, Ok, Result, sym, refl, ap, ◌∙◌, subst, inl, inr, arith}
use Rattle.rules.specs.Entering.{Enters, entered as enter}
use Rattle.rules.specs.Reading.{Reading, rule, refused, ReadsFrom, stops, ends, goes_on, Reads, wrong, reads}
use Rattle.rules.specs.declared.fault.EnterFault.{EnterFault}
use Rattle.rules.specs.declared.node.Node.{Node}
use Rattle.rules.specs.declared.node.Place.{Place}
use Rattle.verdict.specs.Law.{SameAnswers}
use Rattle.verdict.specs.Logs.{BookLog, entered}

from_enters : {file : List ℕ} {start : ℕ} {before after : List Node} {answer : Reading} (log : BookLog before) → ReadsFrom file start before answer after → (log' : BookLog after) × SameAnswers log log'
from_enters log (stops call) = (entered log call, λ p l b. (λ a. a, λ a. a))
from_enters log (ends call h) = (entered log call, λ p l b. (λ a. a, λ a. a))
from_enters log (goes_on call h more) = from_enters (entered log call) more

pub reading_enters : {before after : List Node} {file : List ℕ} {answer : Reading} (log : BookLog before) → Reads before file answer after → (log' : BookLog after) × SameAnswers log log'
reading_enters {before} log (wrong h e same) =
    subst (λ B. (log' : BookLog B) × SameAnswers log log') (sym same) (log, λ p l b. (λ a. a, λ a. a))
reading_enters log (reads h l more) = from_enters log more

ok_same : {X Y : Type 0} {x y : X} → ◌≡◌ {A = Result X Y} (Ok x) (Ok y) → x ≡ y
ok_same e = cc

abbrev Same : Reading → List Node → Reading → List Node → Type 0
Same a B a' B' = (a ≡ a') × (B ≡ B')

module _ (file : List ℕ) where
  -- two enter calls of the same bytes of the file have one outcome
  once : {start start' : ℕ} {before before' after after' : List Node} {answer answer' : Result (Place × ℕ) EnterFault} → start ≡ start' → before ≡ before'
      → Enters before (drop start file) answer after → Enters before' (drop start' file) answer' after' → (answer ≡ answer') × (after ≡ after')
  once s b c d = (
    c.answers ∙ (λ i. (enter (b i) (drop (s i) file)).0) ∙ sym d.answers,
    c.leaves ∙ (λ i. (enter (b i) (drop (s i) file)).1) ∙ sym d.leaves,
  )

  from_once : {start start' : ℕ} {before before' after after' : List Node} {answer answer' : Reading} → start ≡ start' → before ≡ before'
      → ReadsFrom file start before answer after → ReadsFrom file start' before' answer' after' → Same answer after answer' after'
  from_once s b (stops {fault = f} c) (stops {fault = f'} d) =
      let q = once s b c d in
      let e : f ≡ f' = cc q.0 in
      ((λ i. refused (e i) (s i)), q.1)
  from_once s b (stops c) (ends d h) = absurd (cc (once s b c d).0)
  from_once s b (stops c) (goes_on d h more) = absurd (cc (once s b c d).0)
  from_once s b (ends c g) (stops d) = absurd (cc (once s b c d).0)
  from_once s b (ends c g) (ends d h) = let q = once s b c d in (ap (λ x. rule x.0) (ok_same q.0), q.1)
  from_once s b (ends {length_of = l} c g) (goes_on {length_of = l'} d h more) = let e : l ≡ l' = ap (λ x. x.1) (ok_same (once s b c d).0) in absurd (omega arith)
  from_once s b (goes_on c g more) (stops d) = absurd (cc (once s b c d).0)
  from_once s b (goes_on {length_of = l} c g more) (ends {length_of = l'} d h) = let e : l ≡ l' = ap (λ x. x.1) (ok_same (once s b c d).0) in absurd (omega arith)
  from_once s b (goes_on {length_of = l} c g more) (goes_on {length_of = l'} d h more') =
      let q = once s b c d in
      let e : l ≡ l' = ap (λ x. x.1) (ok_same q.0) in
      from_once (λ i. s i + e i) q.1 more more'

pub reading_once : {before after after' : List Node} {file : List ℕ} {answer answer' : Reading} → Reads before file answer after → Reads before file answer' after' → (answer ≡ answer') × (after ≡ after')
reading_once (wrong h e z) (wrong h' e' z') = (e ∙ sym e', z ∙ sym z')
reading_once {file = file} (wrong h e z) (reads n m r) = absurd (elim h [ inl q ↦ omega arith | inr q ↦ omega arith ])
reading_once {file = file} (reads n m r) (wrong h e z) = absurd (elim h [ inl q ↦ omega arith | inr q ↦ omega arith ])
reading_once {file = file} (reads n m r) (reads n' m' r') = from_once file refl refl r r'
