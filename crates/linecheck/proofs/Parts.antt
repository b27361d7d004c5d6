-- The parts of a line that says an edge: the first space ends the digits of the scan.
use Rattle.std.proofs.Common.{◌≡◌, ℕ, zero, suc, ◌+◌, ◌*◌, ◌<◌, Bool, true, false, cond, eqb, leb, List, [], ◌∷◌, length, get_or, Some, None, Option, subst, arith, lit<, Bor, MatchOption}
use Rattle.std.proofs.lemmas.Str.Pattern.{IsSplitOnceResult, split_after}
use Rattle.std.proofs.lemmas.Option.{none-some}
use Rattle.texts.specs.Numerals.{and_then, digit_below, onward}
use Rattle.linecheck.specs.Lines.{SaysEdge}

after_some : (o : Option ℕ) (f : ℕ → Option ℕ) (n : ℕ) → and_then o f ≡ Some n → (d : ℕ) × (f d ≡ Some n)
after_some None f n e = absurd (none-some n e)
after_some (Some d) f n e = (d, e)

within : (s t : Bool) (o : Option ℕ) (n : ℕ) → cond s None (cond t o None) ≡ Some n → o ≡ Some n
within true t o n e = absurd (none-some n e)
within false true o n e = e
within false false o n e = absurd (none-some n e)

-- a space is no digit
solid : (bs : List ℕ) (v n : ℕ) → onward 10 v bs ≡ Some n → (i : ℕ) → i < length bs → get_or bs i 0 ≡ 32 → ⊥
solid [] v n e i h k = omega (arith, h)
solid (b ∷ bs) v n e zero h k =
    none-some n (subst (λ (x : ℕ). and_then (digit_below 10 x) (λ d. onward 10 (v * 10 + d) bs) ≡ Some n) k e)
solid (b ∷ bs) v n e (suc i) h k =
    let p = after_some (digit_below 10 b) (λ d. onward 10 (v * 10 + d) bs) n e in
    solid bs (v * 10 + p.0) n p.1 i (omega (arith, h)) k

pub cut_there : (line : List ℕ) (r : Option (Bor (List ℕ) × Bor (List ℕ))) (scan word : ℕ) (h : SaysEdge line scan word) → IsSplitOnceResult 32 line r → MatchOption r ⊥ (λ x. (x.0.now ≡ h.front) × (x.1.now ≡ h.back))
cut_there line r scan word h s =
    let read = within (eqb (length h.front) 0) (leb (length h.front) 19) (onward 10 0 h.front) scan h.scan_is in
    split_after 32 line h.front h.back r s (lit< tt) h.parts (solid h.front 0 scan read)
