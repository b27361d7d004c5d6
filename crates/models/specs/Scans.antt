-- What every kind of recording is checked for, and the stand-in where a check refuses.
use Rattle.std.specs.Prelude.{ℕ, if◌then◌else◌, ◌&&◌, [], ◌∷◌, Ok, Err, Result, nat_le, nat_lt}
use Rattle.semantics.specs.Lassos.{Lasso}
use Rattle.models.specs.declared.fault.RecordingFault.{RecordingFault}
use Rattle.models.specs.declared.fault.RecordingFault.TheVariants.{ScanCount, LoopStart}

-- what a check answers
abbrev pub Checked : Type 0
Checked = Result (Unit {0}) RecordingFault

-- the loop start is one of n scans
abbrev pub start_check : ℕ → ℕ → Checked
start_check n start = if nat_lt start n then Ok tt else Err (LoopStart start)

-- there are 1 to 65,535 scans, and the loop start is one of them
abbrev pub scans_check : ℕ → ℕ → Checked
scans_check n start = if nat_lt 0 n && nat_le n 65535 then start_check n start else Err (ScanCount n)

-- one scan of the word 0, which loops
abbrev pub quiet : Lasso
quiet = record { words = 0 ∷ []; start = 0 }

-- a lasso that passed its check, and else the stand-in
abbrev pub or_quiet : Checked → Lasso → Lasso
or_quiet (Ok u) l = l
or_quiet (Err f) l = quiet
