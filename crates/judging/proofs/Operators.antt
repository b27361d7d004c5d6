-- The turns of an operator say what the operator means.
use Rattle.std.proofs.Common.{◌≡◌, ℕ, suc, ◌+◌, Bool, true, false, not, ◌&&◌, ◌⊎◌, ◌↔◌, Decides, refl, inl, inr}
use Rattle.std.proofs.lemmas.Bool.{false≢true, both_ways, cases_Bool}
use Rattle.std.proofs.lemmas.Bool.Decides.{Decides-not, Decides-and, Decides-or, Decides-like}
use Rattle.rules.specs.declared.node.BinaryOp.{BinaryOp}
use Rattle.rules.specs.declared.node.BinaryOp.TheVariants.{And, Or, Implies, Equivalent, ExclusiveOr, Until, Release, WeakUntil, StrongRelease}
use Rattle.rules.specs.declared.node.UnaryOp.{UnaryOp}
use Rattle.rules.specs.declared.node.UnaryOp.TheVariants.{Not, Next, Eventually, Always}
use Rattle.semantics.specs.Meaning.{UntilAt, WeakUntilAt, UnaryAt, BinaryAt}
use Rattle.semantics.specs.Solutions.{On, Solution}
use Rattle.semantics.proofs.Shifts.{not_iff, until_shift, weak_shift}
use Rattle.semantics.proofs.Sweeps.{until_now, until_opens}
use Rattle.judging.specs.Columns.{Denied}
use Rattle.judging.specs.Turns.{unary_hold, unary_pass, unary_denies, binary_hold, binary_pass, binary_lasts, binary_denies}

-- the same at each position
until_like : (A B A' B' : ℕ → Type 0) → ((k : ℕ) → A k ↔ A' k) → ((k : ℕ) → B k ↔ B' k) → (i : ℕ) → UntilAt A B i ↔ UntilAt A' B' i
until_like A B A' B' a b i = until_shift A B A' B' i i (λ k. a (i + k)) (λ k. b (i + k))

weak_like : (A B A' B' : ℕ → Type 0) → ((k : ℕ) → A k ↔ A' k) → ((k : ℕ) → B k ↔ B' k) → (i : ℕ) → WeakUntilAt A B i ↔ WeakUntilAt A' B' i
weak_like A B A' B' a b i = weak_shift A B A' B' i i (λ k. a (i + k)) (λ k. b (i + k))

-- where nothing passes on, a node is true where it holds
pub plain : (hold : ℕ → Bool) (i : ℕ) {P : Type 0} → Decides (hold i) P → Solution hold (λ _. false) false i ↔ P
plain hold i d = (
  λ u. elim (until_opens (On (λ _. false)) (On hold) i u) [ inl h ↦ d.0 h | inr q ↦ absurd (false≢true q.0) ],
  λ p. until_now (On (λ _. false)) (On hold) i (d.1 p),
)

so : (true ≡ true) ↔ Unit {0}
so = (λ _. tt, λ _. refl)

-- and is the denial of "one is denied"
decides_both : (a b : Bool) {A B : Type 0} → Decides a A → Decides b B → Decides (a && b) (¬ (¬ A ⊎ ¬ B))
decides_both a b d e =
    Decides-like (a && b) (λ x. elim [ inl f ↦ f x.0 | inr f ↦ f x.1 ])
    (λ f. (
      elim (cases_Bool a) [ inl t ↦ d.0 t | inr z ↦ absurd (f (inl (λ x. both_ways a z (d.1 x)))) ],
      elim (cases_Bool b) [ inl t ↦ e.0 t | inr z ↦ absurd (f (inr (λ x. both_ways b z (e.1 x)))) ],
    ))
    (Decides-and a b d e)

module _ (A : ℕ → Type 0) (a : ℕ → Bool) (d : (k : ℕ) → Decides (a k) (A k)) where
  off : (k : ℕ) → Decides (not (a k)) (¬ A k)
  off k = Decides-not (a k) (d k)

  pub unary_right : (op : UnaryOp) (i : ℕ) → Denied (unary_denies op) (Solution (λ k. unary_hold op (a k) (a (suc k))) (λ k. unary_pass op) false i) ↔ UnaryAt op A i
  unary_right Not i = plain (λ k. not (a k)) i (off i)
  unary_right Next i = plain (λ k. a (suc k)) i (d (suc i))
  unary_right Eventually i = until_like (λ _. true ≡ true) (On a) (λ _. Unit {0}) A (λ _. so) d i
  unary_right Always i = not_iff (until_like (λ _. true ≡ true) (On (λ k. not (a k))) (λ _. Unit {0}) (λ k. ¬ A k) (λ _. so) off i)

module _ (A B : ℕ → Type 0) (a b : ℕ → Bool) (d : (k : ℕ) → Decides (a k) (A k)) (e : (k : ℕ) → Decides (b k) (B k)) where
  pub binary_right : (op : BinaryOp) (i : ℕ) → Denied (binary_denies op) (Solution (λ k. binary_hold op (a k) (b k)) (λ k. binary_pass op (a k)) (binary_lasts op) i) ↔ BinaryAt op A B i
  binary_right And i = plain _ i (decides_both (a i) (b i) (d i) (e i))
  binary_right Or i = plain _ i (Decides-or (a i) (b i) (d i) (e i))
  binary_right Implies i = plain _ i (Decides-or (not (a i)) (b i) (off A a d i) (e i))
  binary_right Equivalent i = plain _ i (Decides-or (a i && b i) (not (a i) && not (b i)) (Decides-and (a i) (b i) (d i) (e i)) (Decides-and (not (a i)) (not (b i)) (off A a d i) (off B b e i)))
  binary_right ExclusiveOr i = plain _ i (Decides-or (a i && not (b i)) (not (a i) && b i) (Decides-and (a i) (not (b i)) (d i) (off B b e i)) (Decides-and (not (a i)) (b i) (off A a d i) (e i)))
  binary_right Until i = until_like (On a) (On b) A B d e i
  binary_right Release i = not_iff (until_like (On (λ k. not (a k))) (On (λ k. not (b k))) (λ k. ¬ A k) (λ k. ¬ B k) (off A a d) (off B b e) i)
  binary_right WeakUntil i = weak_like (On a) (On b) A B d e i
  binary_right StrongRelease i = not_iff (weak_like (On (λ k. not (a k))) (On (λ k. not (b k))) (λ k. ¬ A k) (λ k. ¬ B k) (off A a d) (off B b e) i)
