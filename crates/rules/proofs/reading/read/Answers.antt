use Rattle.std.proofs.Common.{◌≡◌, Err, ap, ◌∙◌, arith}
use Rattle.std.proofs.lemmas.Result.{err_from_is_err_and}
use Rattle.rules.specs.Reading.{stops, ends, goes_on, reads}
use Rattle.rules.specs.declared.reading.ReadFault.TheVariants.{Command}
use Rattle.rules.proofs.reading.read.Goals as goal

pub returns-in_err-place-clause-reads : goal.returns-in_err-place-clause-reads
returns-in_err-place-clause-reads c =
    let p = err_from_is_err_and c.from_residual.result c.from_residual.ensures.1 in
    let is : c.from_residual.result ≡ Err (Command c.in_err-place.field-0.0) = p.1 ∙ ap Err p.2 in
    let h = c.in_err-place.ensures.enters in
    rw (is, h.1) (reads (omega arith) (omega arith) (c.loop-place.invariant.1 _ _ (stops h.0)))

pub returns-then-start-file-clause-reads : goal.returns-then-start-file-clause-reads
returns-then-start-file-clause-reads c = reads (omega arith) (omega arith) (c.loop-place.invariant.1 _ _ (ends c.in_ok-place.ensures.enters c.if-start-file.true))

pub loop-place-preserved : goal.loop-place-preserved
loop-place-preserved c = (c.if-start-file.false, λ answer after h. c.loop-place.invariant.1 answer after (goes_on c.in_ok-place.ensures.enters c.if-start-file.false h))
