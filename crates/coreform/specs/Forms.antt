-- The core form of the rule at a place, or why there is none.
use Rattle.std.specs.Prelude.{ℕ, if◌then◌else◌, List, length, Ok, Err, Result, nat_le, nat_lt}
use Rattle.automata.specs.Sheets.{Written, core_form}
use Rattle.automata.specs.declared.nodes.CoreNode.{CoreNode}
use Rattle.coreform.specs.declared.form.CoreForm.{CoreForm}
use Rattle.coreform.specs.declared.form.FormFault.{FormFault}
use Rattle.coreform.specs.declared.form.FormFault.TheVariants.{NotInBook, TooManyNodes}
use Rattle.rules.specs.declared.node.Node.{Node}
use Rattle.rules.specs.declared.node.Place.{Place}
use Rattle.semantics.specs.Rules.{rule_at}

-- the number of the refusal
abbrev pub form_number : FormFault → ℕ
form_number (NotInBook place) = 9
form_number TooManyNodes = 7

-- the nodes, which are the sheet
abbrev pub nodes_of : CoreForm → List CoreNode
nodes_of f = f.nodes.items

-- the sheet and the number that an answer says
abbrev pub shown : Result CoreForm FormFault → Result Written FormFault
shown (Ok f) = Ok (record { sheet = nodes_of f; root = f.root })
shown (Err fault) = Err fault

-- the core form of the rule at the place, however large
abbrev pub form_at : List Node → Place → Written
form_at book place = core_form (rule_at book place.index)

-- the core form, or its refusal: first of a place that is not in the book, then of more than 64 nodes
abbrev pub formed : List Node → Place → Result Written FormFault
formed book place =
    if nat_lt place.index (length book)
    then if nat_le (length (form_at book place).sheet) 64 then Ok (form_at book place) else Err TooManyNodes
    else Err (NotInBook place)
