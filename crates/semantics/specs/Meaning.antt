-- When a rule holds of an endless sequence of words, at a position of it. Bit s of a word is signal s.
use Rattle.std.specs.Prelude.{◌≡◌, ℕ, suc, ◌<◌, ◌≤◌, ◌⊎◌}
use Rattle.std.specs.Int.{bit_at}
use Rattle.rules.specs.declared.node.UnaryOp.{UnaryOp}
use Rattle.rules.specs.declared.node.UnaryOp.TheVariants.{Not, Next, Eventually, Always}
use Rattle.rules.specs.declared.node.BinaryOp.{BinaryOp}
use Rattle.rules.specs.declared.node.BinaryOp.TheVariants.{And, Or, Implies, Equivalent, ExclusiveOr, Until, Release, WeakUntil, StrongRelease}
use Rattle.semantics.specs.Rules.{Rule, Top, Bottom, Atom, One, Two}

-- bit k of a word, 0 or 1: word / 2 ^ k % 2
abbrev pub bit : ℕ → ℕ → ℕ
bit word k = bit_at word k

-- b at some j from i on, and a at each k from i up to j
abbrev pub UntilAt : (ℕ → Type 0) → (ℕ → Type 0) → ℕ → Type 0
UntilAt A B i = (j : ℕ) × (i ≤ j) × B j × ((k : ℕ) → i ≤ k → k < j → A k)

-- a at some j from i on
abbrev pub EventuallyAt : (ℕ → Type 0) → ℕ → Type 0
EventuallyAt A = UntilAt (λ _. Unit {0}) A

-- a at every j from i on: at none is it denied
abbrev pub AlwaysAt : (ℕ → Type 0) → ℕ → Type 0
AlwaysAt A i = ¬ EventuallyAt (λ k. ¬ A k) i

-- a releases b: not (not a until not b)
abbrev pub ReleaseAt : (ℕ → Type 0) → (ℕ → Type 0) → ℕ → Type 0
ReleaseAt A B i = ¬ UntilAt (λ k. ¬ A k) (λ k. ¬ B k) i

-- a until b, or always a
abbrev pub WeakUntilAt : (ℕ → Type 0) → (ℕ → Type 0) → ℕ → Type 0
WeakUntilAt A B i = UntilAt A B i ⊎ AlwaysAt A i

-- a strongly releases b: not (not a weak until not b)
abbrev pub StrongReleaseAt : (ℕ → Type 0) → (ℕ → Type 0) → ℕ → Type 0
StrongReleaseAt A B i = ¬ WeakUntilAt (λ k. ¬ A k) (λ k. ¬ B k) i

-- an operator, over what its operands say at each position
abbrev pub UnaryAt : UnaryOp → (ℕ → Type 0) → ℕ → Type 0
UnaryAt Not A i = ¬ A i
UnaryAt Next A i = A (suc i)
UnaryAt Eventually A i = EventuallyAt A i
UnaryAt Always A i = AlwaysAt A i

-- the same for an operator of two operands
abbrev pub BinaryAt : BinaryOp → (ℕ → Type 0) → (ℕ → Type 0) → ℕ → Type 0
BinaryAt And A B i = ¬ (¬ A i ⊎ ¬ B i)
BinaryAt Or A B i = A i ⊎ B i
BinaryAt Implies A B i = ¬ A i ⊎ B i
BinaryAt Equivalent A B i = (A i × B i) ⊎ (¬ A i × ¬ B i)
BinaryAt ExclusiveOr A B i = (A i × ¬ B i) ⊎ (¬ A i × B i)
BinaryAt Until A B i = UntilAt A B i
BinaryAt Release A B i = ReleaseAt A B i
BinaryAt WeakUntil A B i = WeakUntilAt A B i
BinaryAt StrongRelease A B i = StrongReleaseAt A B i

-- the rule holds of the sequence at position i
abbrev pub Holds : Rule → (ℕ → ℕ) → ℕ → Type 0
Holds Top word i = Unit {0}
Holds Bottom word i = ⊥
Holds (Atom s) word i = bit (word i) s ≡ 1
Holds (One op a) word i = UnaryAt op (Holds a word) i
Holds (Two op a b) word i = BinaryAt op (Holds a word) (Holds b word) i
