-- The lists as they are lent.
use Rattle.std.specs.Prelude.{vec_items}
use Rattle.tableau.specs.Stepping.{Lists, lists}
use Rattle.lists.specs.declared.LongestLists.{LongestLists}

-- the entries of the four lists
abbrev pub lent : LongestLists → Lists
lent all = lists (vec_items all.sheet) (vec_items all.states) (vec_items all.arcs) (vec_items all.pending)
