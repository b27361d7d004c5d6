-- What is printed of the cause of a refused command.
use Rattle.std.specs.Prelude.{ℕ, ◌/◌, ◌%◌, false, List, [], ◌∷◌, ◌++◌, codes}
use Rattle.std.specs.Fmt.{decimal, digit_glyph}
use Rattle.rules.specs.declared.fault.EnterFault.{EnterFault}
use Rattle.rules.specs.declared.fault.EnterFault.TheVariants.{UnknownCommand, Truncated, SignalAbove, NotEntered, Full}

-- the two hexadecimal digits of a byte
abbrev pub byte_text : ℕ → List ℕ
byte_text byte = digit_glyph false (byte / 16) ∷ digit_glyph false (byte % 16) ∷ []

-- the cause, as the end of a sentence about a command of a file
abbrev pub cause_text : EnterFault → List ℕ
cause_text (UnknownCommand byte) = codes "no command begins with the byte " ++ byte_text byte
cause_text Truncated = codes "the file ends inside this command"
cause_text (SignalAbove signal) = codes "there is no signal " ++ decimal signal ++ codes "; signals are 0 to 63"
cause_text (NotEntered place) = codes "there is no node yet at place " ++ decimal place.index
cause_text Full = codes "the book is full; it has room for 256 nodes"
