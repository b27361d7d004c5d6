-- A rule is a tree; the rule at a place of a book, and when two places hold the same rule.
use Rattle.std.specs.Prelude.{◌≡◌, ℕ, zero, suc, ◌<◌, List, length, slice_index_or}
use Rattle.rules.specs.declared.node.BinaryOp.{BinaryOp}
use Rattle.rules.specs.declared.node.Node.{Node}
use Rattle.rules.specs.declared.node.Node.TheVariants.{True, False, Signal, Unary, Binary}
use Rattle.rules.specs.declared.node.Place.{Place}
use Rattle.rules.specs.declared.node.UnaryOp.{UnaryOp}

-- true, false, a signal, or an operator over one rule or two
pub data Rule : Type 0 where
  Top Bottom : Rule
  -- the signal of this number
  Atom : ℕ → Rule
  One : UnaryOp → Rule → Rule
  Two : BinaryOp → Rule → Rule → Rule

-- the rule of a node, from the rules at its operands' places
abbrev pub built : (ℕ → Rule) → Node → Rule
built f True = Top
built f False = Bottom
built f (Signal s) = Atom s
built f (Unary op a) = One op (f a.index)
built f (Binary op a b) = Two op (f a.index) (f b.index)

-- the rule at place k, looked up through at most n operands on end
unfoldable pub rule_within : ℕ → List Node → ℕ → Rule
rule_within zero book k = Top
rule_within (suc n) book k = built (rule_within n book) (slice_index_or book k True)

-- the rule at place k: operands lie lower, so there are at most k of them on end
abbrev pub rule_at : List Node → ℕ → Rule
rule_at book k = rule_within (suc k) book k

-- node n stands at place k of the book
abbrev pub Stands : List Node → ℕ → Node → Type 0
Stands book k n = (k < length book) × (slice_index_or book k True ≡ n)

-- two places, of one book or of two, hold the same rule: their command bytes agree, and the operands
-- are the same signal or hold the same rules in order
pub data SameRule (book book' : List Node) : ℕ → ℕ → Type 0 where
  trues : {k k' : ℕ} → Stands book k True → Stands book' k' True → SameRule book book' k k'
  falses : {k k' : ℕ} → Stands book k False → Stands book' k' False → SameRule book book' k k'
  signals : {k k' s : ℕ} → Stands book k (Signal s) → Stands book' k' (Signal s) → SameRule book book' k k'
  unaries : {k k' : ℕ} {a a' : Place} {op : UnaryOp} → Stands book k (Unary op a) → Stands book' k' (Unary op a')
      → SameRule book book' a.index a'.index → SameRule book book' k k'
  binaries : {k k' : ℕ} {a a' b b' : Place} {op : BinaryOp} → Stands book k (Binary op a b) → Stands book' k' (Binary op a' b')
      → SameRule book book' a.index a'.index → SameRule book book' b.index b'.index → SameRule book book' k k'
