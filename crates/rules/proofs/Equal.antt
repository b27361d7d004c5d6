-- `same` says whether nodes are equal, and `place_of` is the first place of an equal one.
use Rattle.std.proofs.Common.{◌≡◌, ◌≢◌, ℕ, zero, suc, ◌+◌, ◌<◌, cond, List, [], ◌∷◌, length, get_or, Some, None, Decides, sym, refl, ap, ◌∙◌, arith, rules}
use Rattle.std.proofs.lemmas.Grind.{common_steps}
use Rattle.std.proofs.lemmas.Iterator.Adapters.{position_from-zero}
use Rattle.std.specs.List.{position, position_from}
use Rattle.rules.specs.Nodes.{same, place_from, place_of}
use Rattle.rules.specs.declared.node.Node.{Node}
use Rattle.rules.specs.declared.node.Node.TheVariants.{True}

pub same_decides : (x y : Node) → Decides (same x y) (x ≡ y)
unfolding same
same_decides x y = search rules

-- std's word for the first place
place_is_from : (n : Node) (i : ℕ) (xs : List Node) → place_from i n xs ≡ position_from (λ x. same x n) i xs
place_is_from n i [] = refl
place_is_from n i (x ∷ xs) = ap (cond (same x n) (Some i)) (place_is_from n (i + 1) xs)

pub place_is_position : (n : Node) (xs : List Node) → place_of n xs ≡ position (λ x. same x n) xs
place_is_position n xs = place_is_from n 0 xs ∙ sym (position_from-zero (λ x. same x n) xs)

-- a node that has no place is none of the list
pub absent : (n : Node) (i : ℕ) (xs : List Node) → place_from i n xs ≡ None → (k : ℕ) → k < length xs → get_or xs k True ≢ n
absent n i [] e k h = grind arith
absent n i (x ∷ xs) e zero h = grind (arith, common_steps, same_decides x n)
absent n i (x ∷ xs) e (suc k) h = grind (arith, common_steps, absent n (i + 1) xs)
