-- A recipe writes the core form of its node.
use Rattle.std.proofs.Common.{◌≡◌, ℕ, ◌-◌, ◌<◌, Bool, true, false, ltb, List, [], length, get_or, refl, subst}
use Rattle.std.proofs.lemmas.Bool.{ltb-true, and_parts}
use Rattle.std.specs.List.{AllByRecursion}
use Rattle.std.proofs.lemmas.List.Elements.{All-from_recursion}
use Rattle.automata.specs.Cores.{core_of}
use Rattle.automata.specs.Sheets.{Written, write}
use Rattle.automata.specs.declared.nodes.CoreNode.{CoreNode}
use Rattle.coreform.specs.Recipes.{unary_recipe, binary_recipe, recipe_of, Made, made}
use Rattle.coreform.specs.declared.recipe.Step.{Step}
use Rattle.coreform.specs.declared.recipe.Step.TheVariants as step
use Rattle.rules.specs.Tables.{fits_at}
use Rattle.rules.specs.declared.node.BinaryOp.{BinaryOp}
use Rattle.rules.specs.declared.node.BinaryOp.TheVariants.{And, Or, Implies, Equivalent, ExclusiveOr, Until, Release, WeakUntil, StrongRelease}
use Rattle.rules.specs.declared.node.Node.{Node}
use Rattle.rules.specs.declared.node.Node.TheVariants.{True, False, Signal, Unary, Binary}
use Rattle.rules.specs.declared.node.Place.{Place}
use Rattle.rules.specs.declared.node.UnaryOp.{UnaryOp}
use Rattle.rules.specs.declared.node.UnaryOp.TheVariants.{Not, Next, Eventually, Always}
use Rattle.semantics.specs.Rules.{Rule, One, Two, built}

-- the last number of what is made
abbrev pub written : List Step → Made → Written
written ss m = record { sheet = m.sheet; root = get_or m.numbers (length ss - 1) 0 }

module _ (rule : ℕ → Rule) (sheet : List CoreNode) where
  abbrev Right : List Step → Rule → Bool → Type 0
  Right ss r p = written ss (made rule ss [] sheet) ≡ write (core_of r p) sheet

  unary_right : (op : UnaryOp) (p : Bool) (a : Place) → Right (unary_recipe op p a) (One op (rule a.index)) p
  unfolding write
  unary_right Not true a = refl
  unary_right Not false a = refl
  unary_right Next true a = refl
  unary_right Next false a = refl
  unary_right Eventually true a = refl
  unary_right Eventually false a = refl
  unary_right Always true a = refl
  unary_right Always false a = refl

  binary_right : (op : BinaryOp) (p : Bool) (a b : Place) → Right (binary_recipe op p a b) (Two op (rule a.index) (rule b.index)) p
  unfolding write
  binary_right And true a b = refl
  binary_right And false a b = refl
  binary_right Or true a b = refl
  binary_right Or false a b = refl
  binary_right Implies true a b = refl
  binary_right Implies false a b = refl
  binary_right Equivalent true a b = refl
  binary_right Equivalent false a b = refl
  binary_right ExclusiveOr true a b = refl
  binary_right ExclusiveOr false a b = refl
  binary_right Until true a b = refl
  binary_right Until false a b = refl
  binary_right Release true a b = refl
  binary_right Release false a b = refl
  binary_right WeakUntil true a b = refl
  binary_right WeakUntil false a b = refl
  binary_right StrongRelease true a b = refl
  binary_right StrongRelease false a b = refl

  pub recipe_right : (node : Node) (p : Bool) → Right (recipe_of node p) (built rule node) p
  unfolding write
  recipe_right True true = refl
  recipe_right True false = refl
  recipe_right False true = refl
  recipe_right False false = refl
  recipe_right (Signal s) true = refl
  recipe_right (Signal s) false = refl
  recipe_right (Unary op a) p = unary_right op p a
  recipe_right (Binary op a b) p = binary_right op p a b

-- ---- the places that a recipe writes are the operands of its node
abbrev pub LowerStep : ℕ → Step → Type 0
LowerStep n (step.Write a p) = a.index < n
LowerStep n s = Unit {0}

abbrev AllLower : ℕ → List Step → Type 0
AllLower n = AllByRecursion (LowerStep n)

module _ (n : ℕ) where
  unary_lower : (op : UnaryOp) (p : Bool) (a : Place) → a.index < n → AllLower n (unary_recipe op p a)
  unary_lower Not true a h = (h, tt)
  unary_lower Not false a h = (h, tt)
  unary_lower Next p a h = (h, (tt, tt))
  unary_lower Eventually true a h = (tt, (h, (tt, tt)))
  unary_lower Eventually false a h = (tt, (h, (tt, tt)))
  unary_lower Always true a h = (tt, (h, (tt, tt)))
  unary_lower Always false a h = (tt, (h, (tt, tt)))

  binary_lower : (op : BinaryOp) (p : Bool) (a b : Place) → a.index < n → b.index < n → AllLower n (binary_recipe op p a b)
  binary_lower And true a b h l = (h, (l, (tt, tt)))
  binary_lower And false a b h l = (h, (l, (tt, tt)))
  binary_lower Or true a b h l = (h, (l, (tt, tt)))
  binary_lower Or false a b h l = (h, (l, (tt, tt)))
  binary_lower Implies true a b h l = (h, (l, (tt, tt)))
  binary_lower Implies false a b h l = (h, (l, (tt, tt)))
  binary_lower Equivalent true a b h l = (h, (l, (tt, (h, (l, (tt, (tt, tt)))))))
  binary_lower Equivalent false a b h l = (h, (l, (tt, (h, (l, (tt, (tt, tt)))))))
  binary_lower ExclusiveOr true a b h l = (h, (l, (tt, (h, (l, (tt, (tt, tt)))))))
  binary_lower ExclusiveOr false a b h l = (h, (l, (tt, (h, (l, (tt, (tt, tt)))))))
  binary_lower Until true a b h l = (h, (l, (tt, tt)))
  binary_lower Until false a b h l = (h, (l, (tt, tt)))
  binary_lower Release true a b h l = (h, (l, (tt, tt)))
  binary_lower Release false a b h l = (h, (l, (tt, tt)))
  binary_lower WeakUntil true a b h l = (l, (h, (l, (tt, (tt, tt)))))
  binary_lower WeakUntil false a b h l = (l, (h, (l, (tt, (tt, tt)))))
  binary_lower StrongRelease true a b h l = (l, (h, (l, (tt, (tt, tt)))))
  binary_lower StrongRelease false a b h l = (l, (h, (l, (tt, (tt, tt)))))

  node_lower : (node : Node) (p : Bool) → fits_at node n ≡ true → AllLower n (recipe_of node p)
  node_lower True true f = (tt, tt)
  node_lower True false f = (tt, tt)
  node_lower False true f = (tt, tt)
  node_lower False false f = (tt, tt)
  node_lower (Signal s) true f = (tt, tt)
  node_lower (Signal s) false f = (tt, tt)
  node_lower (Unary op a) p f = unary_lower op p a (ltb-true _ _ f)
  node_lower (Binary op a b) p f = let q = and_parts (ltb a.index n) (ltb b.index n) f in binary_lower op p a b (ltb-true _ _ q.0) (ltb-true _ _ q.1)

  -- a step of the recipe that writes a place writes a lower one
  pub writes_lower : (node : Node) (p : Bool) → fits_at node n ≡ true → (k : ℕ) (d : Step) (a : Place) (q : Bool) → k < length (recipe_of node p) → get_or (recipe_of node p) k d ≡ step.Write a q → a.index < n
  writes_lower node p f k d a q l e = subst (LowerStep n) e (All-from_recursion (LowerStep n) (recipe_of node p) (node_lower node p f) k d l)
