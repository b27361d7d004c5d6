-- What the refusals say: the number of each, and where the refused command starts.
use Rattle.std.specs.Prelude.{ℕ, length}
use Rattle.rules.specs.declared.fault.EnterFault.{EnterFault}
use Rattle.rules.specs.declared.fault.EnterFault.TheVariants.{UnknownCommand, Truncated, SignalAbove, NotEntered, Full}
use Rattle.rules.specs.declared.reading.FileFault.{FileFault}
use Rattle.rules.specs.declared.reading.FileFault.TheVariants.{Size, Command as OfFile}
use Rattle.rules.specs.declared.reading.ReadFault.{ReadFault}
use Rattle.rules.specs.declared.reading.ReadFault.TheVariants.{FileSize, Command}

-- the number of a refusal of enter
abbrev pub enter_number : EnterFault → ℕ
enter_number (UnknownCommand byte) = 2
enter_number Truncated = 3
enter_number (SignalAbove signal) = 4
enter_number (NotEntered place) = 5
enter_number Full = 6

-- a refusal of reading, without the bytes that it hands back
abbrev pub file_fault : ReadFault → FileFault
file_fault (FileSize file) = Size (length file.now)
file_fault (Command c) = OfFile c.start c.fault

-- the number of a refusal of reading: that of enter where a command is refused
abbrev pub file_number : FileFault → ℕ
file_number (Size n) = 1
file_number (OfFile start fault) = enter_number fault

-- the byte where the refused command starts; 0 where the size of the file is refused
abbrev pub file_start : FileFault → ℕ
file_start (Size n) = 0
file_start (OfFile start fault) = start

-- the same of a refusal with the bytes that it hands back
abbrev pub read_number : ReadFault → ℕ
read_number fault = file_number (file_fault fault)

-- and its start
abbrev pub read_start : ReadFault → ℕ
read_start fault = file_start (file_fault fault)
