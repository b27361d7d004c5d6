use Rattle.std.proofs.Common.{◌≡◌, length}
use Rattle.semantics.specs.Rules.{rule_at}
use Rattle.coreform.proofs.Following.{Reached}
use Rattle.coreform.specs.Writing.{Known}
use Rattle.coreform.proofs.writing.Writer.+write.Given as goal

abbrev pub decreases-write : goal.decreases-write
decreases-write l = l.place.index

abbrev pub invariant-loop-step : goal.invariant-loop-step
invariant-loop-step l = record {
  reached : Reached (rule_at l.fn.self.book.now) l.step-items l.fn.self.draft.items l.step-index l.made.items l.self.draft.items;
  known : Known l.fn.self.book.now l.self.draft.items l.self.numbers;
  book : l.self.book.now ≡ l.fn.self.book.now;
  long : length l.made.items ≡ l.step-index;
}
