-- What a read call answers: the rule's place or the refusal, and the part of the file that is handed back.
use Rattle.std.specs.Prelude.{◌≡◌, ℕ, List, drop, Ok, Err, Result}
use Rattle.rules.specs.Reading.{Reading, rule, wrong_size, refused}
use Rattle.rules.specs.declared.node.Place.{Place}
use Rattle.rules.specs.Refusals.{file_fault}
use Rattle.rules.specs.declared.reading.FileFault.{FileFault}
use Rattle.rules.specs.declared.reading.FileFault.TheVariants.{Size, Command as OfFile}
use Rattle.rules.specs.declared.reading.ReadFault.{ReadFault}
use Rattle.rules.specs.declared.reading.ReadFault.TheVariants.{FileSize, Command}

-- the answer that a refusal of the file stands for
abbrev pub told_of : FileFault → Reading
told_of (Size n) = wrong_size
told_of (OfFile start fault) = refused fault start

-- the answer without the bytes that it hands back
abbrev pub told : Result Place ReadFault → Reading
told (Ok place) = rule place
told (Err fault) = told_of (file_fault fault)

-- all of a file of a wrong size, else the file from the refused command on
abbrev pub HandsBack : List ℕ → ReadFault → Type 0
HandsBack file (FileSize rest) = rest.now ≡ file
HandsBack file (Command c) = c.rest.now ≡ drop c.start file
