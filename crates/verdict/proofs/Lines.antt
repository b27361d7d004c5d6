-- The table worked on paper: listings are computed, and joined to the judgments.
use Rattle.std.proofs.Common.{◌≡◌, ℕ, List, [], ◌∷◌, sym, refl, subst, arith}
use Rattle.std.specs.Int.Count.{count_trailing_zeros}
use Rattle.automata.specs.Sheets.{write}
use Rattle.automata.specs.Sheets as sheets
use Rattle.automata.specs.Steps.{after}
use Rattle.coreform.specs.Forms.{form_at}
use Rattle.rules.specs.Entering.{at}
use Rattle.rules.specs.Nodes.{same}
use Rattle.rules.specs.Reading.{rule, ends, goes_on, Reads, reads}
use Rattle.rules.specs.declared.node.BinaryOp.TheVariants.{And, Or, Until}
use Rattle.rules.specs.declared.node.Node.{Node}
use Rattle.rules.specs.declared.node.Node.TheVariants.{True, False, Signal, Unary, Binary}
use Rattle.rules.specs.declared.node.UnaryOp.TheVariants.{Not, Next, Eventually, Always}
use Rattle.semantics.specs.Rules.{rule_within}
use Rattle.tableau.specs.Beginning.{begun}
use Rattle.tableau.specs.Stepping.{standing_at}
use Rattle.verdict.specs.Worked.{Listing, listing, Numbered, Listed, WorkedTable, just_true, just_false, p0_until_p1, eventually_p0, always_p0, next_p0, p0_or_p0, p0_and_not_p0, not_p0_and_p0}
use Rattle.verdict.proofs.Judgments.{two, read_until, read_eventually, until_holds, until_fails, weak_holds, once_holds, often_fails}
use Rattle.verdict.proofs.Translated.{numbers_at}

listed : (line : Listing) (book : List Node) (k : ℕ) → Reads [] line.file (rule (at k)) book
    → (after (form_at book (at k)).sheet (form_at book (at k)).root line.steps).pending ≡ []
    → Numbered line (standing_at (begun (form_at book (at k))) (after (form_at book (at k)).sheet (form_at book (at k)).root line.steps)) → Listed line
listed line book k r e n = record {
  book = book;
  place = at k;
  reads = r;
  ends = e;
  numbered = n;
  translates = λ log. subst (Numbered line) (sym (numbers_at line.steps e log)) n;
}

list_true : Listed (listing just_true 2 3 0 4)
unfolding same sheets.same write after count_trailing_zeros rule_within
list_true = listed (listing just_true 2 3 0 4) (True ∷ []) 0 (reads (omega arith) (omega arith) (ends {length_of = 1} (record { answers = refl; leaves = refl }) (omega arith))) refl
    (record { states = refl; arcs = refl; sets = refl; steps = refl })

list_false : Listed (listing just_false 0 0 0 1)
unfolding same sheets.same write after count_trailing_zeros rule_within
list_false = listed (listing just_false 0 0 0 1) (False ∷ []) 0 (reads (omega arith) (omega arith) (ends {length_of = 1} (record { answers = refl; leaves = refl }) (omega arith))) refl
    (record { states = refl; arcs = refl; sets = refl; steps = refl })

list_until : Listed (listing p0_until_p1 3 6 1 12)
unfolding two same sheets.same write after count_trailing_zeros rule_within
list_until = listed (listing p0_until_p1 3 6 1 12) (two Until) 2 read_until refl (record { states = refl; arcs = refl; sets = refl; steps = refl })

list_eventually : Listed (listing eventually_p0 3 6 1 12)
unfolding same sheets.same write after count_trailing_zeros rule_within
list_eventually = listed (listing eventually_p0 3 6 1 12) (Signal 0 ∷ Unary Eventually (at 0) ∷ []) 1 read_eventually refl (record { states = refl; arcs = refl; sets = refl; steps = refl })

list_always : Listed (listing always_p0 1 2 0 8)
unfolding same sheets.same write after count_trailing_zeros rule_within
list_always = listed (listing always_p0 1 2 0 8) (Signal 0 ∷ Unary Always (at 0) ∷ []) 1
    (reads (omega arith) (omega arith)
    (goes_on {length_of = 3} {between = Signal 0 ∷ []} {place = at 0} (record { answers = refl; leaves = refl }) (omega arith)
    (ends {length_of = 3} (record { answers = refl; leaves = refl }) (omega arith))))
    refl (record { states = refl; arcs = refl; sets = refl; steps = refl })

list_next : Listed (listing next_p0 3 4 0 6)
unfolding same sheets.same write after count_trailing_zeros rule_within
list_next = listed (listing next_p0 3 4 0 6) (Signal 0 ∷ Unary Next (at 0) ∷ []) 1
    (reads (omega arith) (omega arith)
    (goes_on {length_of = 3} {between = Signal 0 ∷ []} {place = at 0} (record { answers = refl; leaves = refl }) (omega arith)
    (ends {length_of = 3} (record { answers = refl; leaves = refl }) (omega arith))))
    refl (record { states = refl; arcs = refl; sets = refl; steps = refl })

list_or : Listed (listing p0_or_p0 2 3 0 7)
unfolding same sheets.same write after count_trailing_zeros rule_within
list_or = listed (listing p0_or_p0 2 3 0 7) (Signal 0 ∷ Binary Or (at 0) (at 0) ∷ []) 1
    (reads (omega arith) (omega arith)
    (goes_on {length_of = 3} {between = Signal 0 ∷ []} {place = at 0} (record { answers = refl; leaves = refl }) (omega arith)
    (ends {length_of = 5} (record { answers = refl; leaves = refl }) (omega arith))))
    refl (record { states = refl; arcs = refl; sets = refl; steps = refl })

list_clash : Listed (listing p0_and_not_p0 0 0 0 3)
unfolding same sheets.same write after count_trailing_zeros rule_within
list_clash = listed (listing p0_and_not_p0 0 0 0 3) (Signal 0 ∷ Unary Not (at 0) ∷ Binary And (at 0) (at 1) ∷ []) 2
    (reads (omega arith) (omega arith)
    (goes_on {length_of = 3} {between = Signal 0 ∷ []} {place = at 0} (record { answers = refl; leaves = refl }) (omega arith)
    (goes_on {length_of = 3} {between = Signal 0 ∷ Unary Not (at 0) ∷ []} {place = at 1} (record { answers = refl; leaves = refl }) (omega arith)
    (ends {length_of = 5} (record { answers = refl; leaves = refl }) (omega arith)))))
    refl (record { states = refl; arcs = refl; sets = refl; steps = refl })

list_clash_back : Listed (listing not_p0_and_p0 0 0 0 3)
unfolding same sheets.same write after count_trailing_zeros rule_within
list_clash_back = listed (listing not_p0_and_p0 0 0 0 3) (Signal 0 ∷ Unary Not (at 0) ∷ Binary And (at 1) (at 0) ∷ []) 2
    (reads (omega arith) (omega arith)
    (goes_on {length_of = 3} {between = Signal 0 ∷ []} {place = at 0} (record { answers = refl; leaves = refl }) (omega arith)
    (goes_on {length_of = 3} {between = Signal 0 ∷ Unary Not (at 0) ∷ []} {place = at 1} (record { answers = refl; leaves = refl }) (omega arith)
    (ends {length_of = 5} (record { answers = refl; leaves = refl }) (omega arith)))))
    refl (record { states = refl; arcs = refl; sets = refl; steps = refl })

pub worked : WorkedTable
worked = (
  until_holds,
  (
    until_fails,
    (
      weak_holds,
      (
        once_holds,
        (
          often_fails,
          (list_true, (list_false, (list_until, (list_always, (list_or, (list_next, (list_clash, (list_clash_back, (list_eventually, tt))))))))),
        ),
      ),
    ),
  ),
)
