-- The number of each refusal of a recording.
use Rattle.std.specs.Prelude.{ℕ}
use Rattle.models.specs.declared.fault.RecordingFault.{RecordingFault}
use Rattle.models.specs.declared.fault.RecordingFault.TheVariants.{ScanCount, LoopStart, EdgeOrder}

-- the number of the refusal
abbrev pub recording_number : RecordingFault → ℕ
recording_number (ScanCount n) = 12
recording_number (LoopStart s) = 13
recording_number (EdgeOrder i) = 14
