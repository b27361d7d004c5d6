-- The core form written on a sheet: nodes are numbered as they are made, left to right, inner before outer,
-- an equal node being used again.
use Rattle.std.specs.Prelude.{◌≡◌, ℕ, suc, Bool, Decides, true, if◌then◌else◌, ◌&&◌, List, [], ◌∷◌, ◌++◌, length, ◌==◌, nat_lt}
use Rattle.automata.specs.Cores.{Core, ctrue, cfalse, con, coff, cnext, cand, cor, cuntil, crelease, core_of}
use Rattle.automata.specs.declared.nodes.CoreNode.{CoreNode}
use Rattle.automata.specs.declared.nodes.CoreNode.TheVariants.{True, False, On, Off, Next, And, Or, Until, Release}
use Rattle.semantics.specs.Rules.{Rule}

-- its kind and operands, which say all of a node
abbrev pub parts : CoreNode → ℕ × ℕ × ℕ
parts True = (0, 0, 0)
parts False = (1, 0, 0)
parts (On s) = (2, s, 0)
parts (Off s) = (3, s, 0)
parts (Next a) = (4, a, 0)
parts (And a b) = (5, a, b)
parts (Or a b) = (6, a, b)
parts (Until a b) = (7, a, b)
parts (Release a b) = (8, a, b)

-- whether two nodes are equal
unfoldable pub same : CoreNode → CoreNode → Bool
same x y = (parts x).0 == (parts y).0 && ((parts x).1 == (parts y).1 && (parts x).2 == (parts y).2)

-- it is true of equal nodes and of no others, and so reflexive, symmetric and transitive
abbrev pub SameDecides : Type 0
SameDecides = (x y : CoreNode) → Decides (same x y) (x ≡ y)

-- the number of a node: where it stands on the sheet, or the next free number
abbrev pub number_on : CoreNode → List CoreNode → ℕ
number_on n [] = 0
number_on n (x ∷ xs) = if same x n then 0 else suc (number_on n xs)

-- a sheet, and the number of the core form on it
pub record Written : Type 0 where
  pub sheet : List CoreNode
  pub root : ℕ

-- a node joins the sheet unless it is there
abbrev pub put : CoreNode → List CoreNode → Written
put n xs = record { sheet = if nat_lt (number_on n xs) (length xs) then xs else xs ++ n ∷ []; root = number_on n xs }

-- a node over one operand, which is on the sheet already
abbrev pub put1 : (ℕ → CoreNode) → Written → Written
put1 node a = put (node a.root) a.sheet

-- a node over two operands: i is the number of the left one, and the right one was written last
abbrev pub put2 : (ℕ → ℕ → CoreNode) → ℕ → Written → Written
put2 node i b = put (node i b.root) b.sheet

-- the nodes of a core form join the sheet, and the root is the number of the whole
unfoldable pub write : Core → List CoreNode → Written
write ctrue xs = put True xs
write cfalse xs = put False xs
write (con s) xs = put (On s) xs
write (coff s) xs = put (Off s) xs
write (cnext a) xs = put1 Next (write a xs)
write (cand a b) xs = let left = write a xs in put2 And left.root (write b left.sheet)
write (cor a b) xs = let left = write a xs in put2 Or left.root (write b left.sheet)
write (cuntil a b) xs = let left = write a xs in put2 Until left.root (write b left.sheet)
write (crelease a b) xs = let left = write a xs in put2 Release left.root (write b left.sheet)

-- the core form of a rule, on a sheet of its own: a function of the rule alone
abbrev pub core_form : Rule → Written
core_form r = write (core_of r true) []
