-- What the refusals say.
use Rattle.std.specs.Prelude.{◌≡◌, ℕ, List, length}
use Rattle.rules.specs.Refusals.{file_number, file_start}
use Rattle.rules.specs.declared.reading.FileFault.{FileFault}
use Rattle.rules.specs.declared.reading.FileFault.TheVariants.{Size, Command}
use Rattle.tableau.specs.Refusals.{begin_number}
use Rattle.listing.specs.declared.fault.ListFault.{ListFault}
use Rattle.listing.specs.declared.fault.ListFault.TheVariants.{Read, Begin}

-- the size that it names is the file's
abbrev pub Sized : List ℕ → FileFault → Type 0
Sized file (Size n) = n ≡ length file
Sized file (Command start fault) = Unit {0}

-- the number of each refusal
abbrev pub list_number : ListFault → ℕ
list_number (Read fault) = file_number fault
list_number (Begin fault) = begin_number fault

-- the byte where the refused command starts; 0 where no command is refused
abbrev pub list_start : ListFault → ℕ
list_start (Read fault) = file_start fault
list_start (Begin fault) = 0
