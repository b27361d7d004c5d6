-- What a line of a recording's text says.
use Rattle.std.specs.Prelude.{◌≡◌, ℕ, List, ◌∷◌, ◌++◌, Some, None, codes, Option}
use Rattle.models.specs.declared.edges.Edge.{Edge}
use Rattle.texts.specs.Numerals.{numeral}
use Rattle.linecheck.specs.declared.text.Heading.{Heading}
use Rattle.linecheck.specs.declared.text.Heading.TheVariants.{Packed, Edges}

-- the digits of the scan, a space, and the digits of the word
pub record SaysEdge (line : List ℕ) (scan word : ℕ) : Type 0 where
  pub front : List ℕ
  pub back : List ℕ
  pub parts : line ≡ front ++ (32 ∷ back)
  pub scan_is : numeral 10 19 front ≡ Some scan
  pub word_is : numeral 16 16 back ≡ Some word

-- the edge that a line says, or none where it says none
abbrev pub EdgeLine : List ℕ → Option Edge → Type 0
EdgeLine line (Some edge) = SaysEdge line edge.scan edge.word
EdgeLine line None = (scan word : ℕ) → SaysEdge line scan word → ⊥

-- the line is `packed loop S`, and S is the loop start
pub record SaysPacked (line : List ℕ) (start : ℕ) : Type 0 where
  pub digits : List ℕ
  pub parts : line ≡ codes "packed loop " ++ digits
  pub start_is : numeral 10 19 digits ≡ Some start

-- the line is `edges N loop S`, where N is the number of scans and S the loop start
pub record SaysEdges (line : List ℕ) (count start : ℕ) : Type 0 where
  pub front : List ℕ
  pub back : List ℕ
  pub parts : line ≡ codes "edges " ++ (front ++ (codes " loop " ++ back))
  pub count_is : numeral 10 19 front ≡ Some count
  pub start_is : numeral 10 19 back ≡ Some start

-- a heading is taken from no other line than one that says it
abbrev pub HeadingLine : List ℕ → Option Heading → Type 0
HeadingLine line (Some (Packed start)) = SaysPacked line start
HeadingLine line (Some (Edges count start)) = SaysEdges line count start
HeadingLine line None = Unit {0}
