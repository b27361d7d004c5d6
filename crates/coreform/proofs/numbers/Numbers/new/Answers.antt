use Rattle.std.proofs.Common.{◌≡◌, ℕ, true, false, get_or, replicate, ap, arith}
use Rattle.std.proofs.Math.Decide.{dec_lt}
use Rattle.std.proofs.lemmas.List.{get_or-replicate, get_or_past, length-replicate}
use Rattle.coreform.specs.Remembered.{no_numbers}
use Rattle.coreform.proofs.numbers.Numbers.new.Goals as goal

all_same : (k : ℕ) → get_or (replicate 256 no_numbers) k no_numbers ≡ no_numbers
all_same k = elim (dec_lt k 256) [
  | yes h ↦ get_or-replicate 256 k no_numbers no_numbers h
  | no h ↦ get_or_past (replicate 256 no_numbers) k no_numbers (omega (arith, length-replicate 256 no_numbers))
]

pub returns : goal.returns
returns c true k = ap (λ p. p.held) (all_same k)
returns c false k = ap (λ p. p.denied) (all_same k)
