-- The words that are printed.
use Rattle.std.specs.Prelude.{ℕ, List, codes}
use Rattle.tableau.specs.declared.translation.Lack.{Lack}
use Rattle.tableau.specs.declared.translation.Lack.TheVariants.{Steps, States, Arcs, Pending}

-- the word for what there is no room for
abbrev pub lack_text : Lack → List ℕ
lack_text Steps = codes "steps"
lack_text States = codes "states"
lack_text Arcs = codes "arcs"
lack_text Pending = codes "pending"
