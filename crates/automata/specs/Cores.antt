-- The core form of a rule as a tree: denials are pushed in, and few operators are left.
use Rattle.std.specs.Prelude.{◌≡◌, ℕ, suc, ◌<◌, ◌≤◌, Bool, true, false, ◌⊎◌}
use Rattle.rules.specs.declared.node.BinaryOp.{BinaryOp}
use Rattle.rules.specs.declared.node.BinaryOp.TheVariants.{And, Or, Implies, Equivalent, ExclusiveOr, Until, Release, WeakUntil, StrongRelease}
use Rattle.rules.specs.declared.node.UnaryOp.{UnaryOp}
use Rattle.rules.specs.declared.node.UnaryOp.TheVariants.{Not, Next, Eventually, Always}
use Rattle.semantics.specs.Meaning.{bit, UntilAt}
use Rattle.semantics.specs.Rules.{Rule, Top, Bottom, Atom, One, Two}

-- a core form: true, false, a literal of a signal, next, and, or, until, release
pub data Core : Type 0 where
  ctrue cfalse : Core
  -- the two literals of a signal
  con coff : ℕ → Core
  cnext : Core → Core
  cand cor cuntil crelease : Core → Core → Core

-- an operator over the core forms of its operand and of the operand's denial, for the rule (true) or its denial (false)
abbrev pub unary_core : UnaryOp → Bool → (Bool → Core) → Core
unary_core Not true a = a false
unary_core Not false a = a true
unary_core Next true a = cnext (a true)
unary_core Next false a = cnext (a false)
unary_core Eventually true a = cuntil ctrue (a true)
unary_core Eventually false a = crelease cfalse (a false)
unary_core Always true a = crelease cfalse (a true)
unary_core Always false a = cuntil ctrue (a false)

-- the same for an operator of two operands
abbrev pub binary_core : BinaryOp → Bool → (Bool → Core) → (Bool → Core) → Core
binary_core And true a b = cand (a true) (b true)
binary_core And false a b = cor (a false) (b false)
binary_core Or true a b = cor (a true) (b true)
binary_core Or false a b = cand (a false) (b false)
binary_core Implies true a b = cor (a false) (b true)
binary_core Implies false a b = cand (a true) (b false)
binary_core Equivalent true a b = cor (cand (a true) (b true)) (cand (a false) (b false))
binary_core Equivalent false a b = cor (cand (a true) (b false)) (cand (a false) (b true))
binary_core ExclusiveOr true a b = cor (cand (a true) (b false)) (cand (a false) (b true))
binary_core ExclusiveOr false a b = cor (cand (a true) (b true)) (cand (a false) (b false))
binary_core Until true a b = cuntil (a true) (b true)
binary_core Until false a b = crelease (a false) (b false)
binary_core Release true a b = crelease (a true) (b true)
binary_core Release false a b = cuntil (a false) (b false)
binary_core WeakUntil true a b = crelease (b true) (cor (a true) (b true))
binary_core WeakUntil false a b = cuntil (b false) (cand (a false) (b false))
binary_core StrongRelease true a b = cuntil (b true) (cand (a true) (b true))
binary_core StrongRelease false a b = crelease (b false) (cor (a false) (b false))

-- the core form of a rule (true), or of its denial (false)
abbrev pub core_of : Rule → Bool → Core
core_of Top true = ctrue
core_of Top false = cfalse
core_of Bottom true = cfalse
core_of Bottom false = ctrue
core_of (Atom s) true = con s
core_of (Atom s) false = coff s
core_of (One op a) p = unary_core op p (core_of a)
core_of (Two op a b) p = binary_core op p (core_of a) (core_of b)

-- b up to and with the first a, or for ever: at each j from i on, b holds there or a did before
abbrev pub ReleasesAt : (ℕ → Type 0) → (ℕ → Type 0) → ℕ → Type 0
ReleasesAt A B i = (j : ℕ) → i ≤ j → B j ⊎ ((k : ℕ) × (i ≤ k) × (k < j) × A k)

-- the core form holds of the sequence at position i
abbrev pub Satisfied : Core → (ℕ → ℕ) → ℕ → Type 0
Satisfied ctrue word i = Unit {0}
Satisfied cfalse word i = ⊥
Satisfied (con s) word i = bit (word i) s ≡ 1
Satisfied (coff s) word i = bit (word i) s ≡ 0
Satisfied (cnext a) word i = Satisfied a word (suc i)
Satisfied (cand a b) word i = Satisfied a word i × Satisfied b word i
Satisfied (cor a b) word i = Satisfied a word i ⊎ Satisfied b word i
Satisfied (cuntil a b) word i = UntilAt (Satisfied a word) (Satisfied b word) i
Satisfied (crelease a b) word i = ReleasesAt (Satisfied a word) (Satisfied b word) i
