-- The number of each refusal.
use Rattle.std.specs.Prelude.{ℕ}
use Rattle.judging.specs.declared.fault.JudgeFault.{JudgeFault}
use Rattle.judging.specs.declared.fault.JudgeFault.TheVariants.{NotInBook, Short}

-- the number of the refusal
abbrev pub judge_number : JudgeFault → ℕ
judge_number (NotInBook place) = 9
judge_number (Short list needed) = 11
