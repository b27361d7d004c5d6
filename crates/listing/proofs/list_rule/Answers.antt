use Rattle.std.proofs.Common.{[], Err, refl, ap, ◌∙◌, subst}
use Rattle.std.proofs.lemmas.Result.{err_from_is_err_and}
use Rattle.rules.specs.Reading.{Reads, rule}
use Rattle.tableau.specs.Stepping.{lists}
use Rattle.listing.specs.Listing.{unbegun, begun}
use Rattle.listing.proofs.Chains.{unread_as}
use Rattle.listing.proofs.list_rule.Goals as goal
use Rattle.listing.proofs.list_rule.Goals.{In_ok-place}

-- the file is read into an empty book
read_empty : (c : In_ok-place) → Reads [] c.args.file.now (rule c.in_ok-place.place) c.read.new.book
read_empty c = subst (λ b. Reads b c.args.file.now (rule c.in_ok-place.place) c.read.new.book) c.new-book.ensures.nodes c.in_ok-place.ensures.reads

pub returns-in_err-place : goal.returns-in_err-place
returns-in_err-place c =
    let p = err_from_is_err_and c.from_residual.result c.from_residual.ensures.1 in
    let h = c.in_err-place.ensures in
    unread_as c.args.file.now (lists c.args.sheet.now c.args.states.now c.args.arcs.now c.args.pending.now)
    c.in_err-place.field-0.0 c.new-book.result c.read.new.book c.new-book.ensures.nodes h.reads h.rest
    c.from_residual.result (p.1 ∙ ap Err p.2)

pub returns-in_err-running : goal.returns-in_err-running
returns-in_err-running c =
    let p = err_from_is_err_and c.from_residual-in_err-running.result c.from_residual-in_err-running.ensures.1 in
    unbegun (read_empty (goal.at.returns-in_err-running c).In_ok-place) c.in_err-running.ensures.begins (p.1 ∙ ap Err p.2) refl

pub returns : goal.returns
returns c =
    begun (read_empty (goal.at.returns c).In_ok-place) c.in_ok-running.ensures.begins c.step_on.ensures refl
