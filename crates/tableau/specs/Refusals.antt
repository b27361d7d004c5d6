-- The refusals of begin and step, and their numbers.
use Rattle.std.specs.Prelude.{ℕ, if◌then◌else◌, Some, None, Option, nat_lt}
use Rattle.coreform.specs.Forms.{form_number}
use Rattle.tableau.specs.declared.fault.BeginFault.{BeginFault}
use Rattle.tableau.specs.declared.fault.BeginFault.TheVariants.{Form, TooManyUntils, Short}
use Rattle.tableau.specs.declared.fault.LentList.{LentList}
use Rattle.tableau.specs.declared.fault.ShortFault.{ShortFault}

-- the refusal of a list with this length: it is shorter than needed
abbrev pub short_of : LentList → ℕ → ℕ → Option ShortFault
short_of list length needed = if nat_lt length needed then Some (record { list = list; needed = needed }) else None

-- of a refusal of step
abbrev pub step_number : ShortFault → ℕ
step_number fault = 11

-- of a refusal of begin
abbrev pub begin_number : BeginFault → ℕ
begin_number (Form fault) = form_number fault
begin_number (TooManyUntils untils) = 8
begin_number (Short fault) = step_number fault
