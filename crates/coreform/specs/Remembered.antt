-- The numbers that are remembered.
use Rattle.std.specs.Prelude.{ℕ, Bool, true, false, if◌then◌else◌, ◌&&◌, Some, None, Option, ◌==◌, slice_index_or}
use Rattle.std.specs.Bool.{beq}
use Rattle.coreform.specs.declared.numbers.Numbers.{Numbers}
use Rattle.coreform.specs.declared.numbers.Pair.{Pair}

-- of a place that has none
abbrev pub no_numbers : Pair
no_numbers = record { held = None; denied = None }

-- of the rule at place k (true), or of its denial (false)
abbrev pub number_of : Numbers → Bool → ℕ → Option ℕ
number_of n true k = (slice_index_or n.pairs k no_numbers).held
number_of n false k = (slice_index_or n.pairs k no_numbers).denied

-- one number more
abbrev pub with_number : Numbers → Bool → ℕ → ℕ → Bool → ℕ → Option ℕ
with_number n polarity place number p k = if beq p polarity && k == place then Some number else number_of n p k
