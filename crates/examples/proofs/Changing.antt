-- The edges of the words so far.
use Rattle.std.proofs.Common.{◌≡◌, ℕ, ◌+◌, ◌<◌, ◌≤◌, cond, leb, List, [], ◌∷◌, ◌++◌, get_or, IfSome, Some, None, Option, not, eqb, false, ap, sym, refl, ◌∙◌, subst, arith, below_more}
use Rattle.std.specs.Option.{option_eq}
use Rattle.std.proofs.lemmas.Bool.{false≢true, eqb-true, not-false, le-leb, lt-leb, cond-true, cond-false}
use Rattle.models.specs.declared.edges.Edge.{Edge}
use Rattle.models.specs.EdgeWords.{word_from, word_at}

-- the last word is this one, where it is no other
pub last_is : (last : Option ℕ) (w : ℕ) → not (option_eq eqb last (Some w)) ≡ false → last ≡ Some w
last_is None w e = absurd (false≢true (sym e))
last_is (Some v) w e = ap Some (eqb-true v w (not-false _ e))

-- the edges say the words below scan i, and from there on the last one
pub record Sofar (words : List ℕ) (edges : List Edge) (last : Option ℕ) (i : ℕ) : Type 0 where
  pub before : (k : ℕ) → k < i → word_at edges k ≡ get_or words k 0
  pub onward : IfSome last (λ w. (k : ℕ) → i ≤ k → word_at edges k ≡ w)

from_push : (w : ℕ) (edges : List Edge) (e : Edge) (k : ℕ) → word_from w (edges ++ (e ∷ [])) k ≡ cond (leb e.scan k) e.word (word_from w edges k)
from_push w [] e k = refl
from_push w (x ∷ edges) e k = from_push (cond (leb x.scan k) x.word w) edges e k

module _ {words : List ℕ} {edges : List Edge} {last : Option ℕ} {i : ℕ} (old : Sofar words edges last i) where
  pub changed : (e : Edge) → e.scan ≡ i → e.word ≡ get_or words i 0 → Sofar words (edges ++ (e ∷ [])) (Some e.word) (i + 1)
  changed e at is = record {
    before = below_more _ _
        (λ k h. from_push 0 edges e k ∙ cond-false _ _ _ (lt-leb e.scan k (omega (arith, at, h))) ∙ old.before k h)
        (from_push 0 edges e i ∙ cond-true _ _ _ (le-leb e.scan i (omega (arith, at))) ∙ is);
    onward = λ k h. from_push 0 edges e k ∙ cond-true _ _ _ (le-leb e.scan k (omega (arith, at, h)));
  }

  pub unchanged : (w : ℕ) → last ≡ Some w → w ≡ get_or words i 0 → Sofar words edges last (i + 1)
  unchanged w e is =
      let stays : (k : ℕ) → i ≤ k → word_at edges k ≡ w = subst (λ o. IfSome o (λ v. (k : ℕ) → i ≤ k → word_at edges k ≡ v)) e old.onward in
      record {
        before = below_more _ _ old.before (stays i (omega arith) ∙ is);
        onward = subst (λ o. IfSome o (λ v. (k : ℕ) → i + 1 ≤ k → word_at edges k ≡ v)) (sym e) (λ k h. stays k (omega (arith, h)));
      }

pub moved : {words : List ℕ} {edges edges' : List Edge} {last last' : Option ℕ} {i : ℕ} → Sofar words edges last i → edges' ≡ edges → last' ≡ last → Sofar words edges' last' i
moved {words} {edges} {edges'} {last} {last'} {i} h e f =
    subst (λ es. Sofar words es last' i) (sym e) (subst (λ o. Sofar words edges o i) (sym f) h)
