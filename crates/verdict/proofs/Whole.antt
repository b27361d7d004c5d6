-- The whole law.
use Rattle.std.proofs.Common.{refl, inl}
use Rattle.automata.proofs.Agreement.{core_right, denial_right}
use Rattle.rules.proofs.Kept.{enters_grows}
use Rattle.semantics.proofs.Places.{same_rule, same_tree}
use Rattle.verdict.specs.Law.{OneVerdict}
use Rattle.verdict.specs.Logs.{judged}
use Rattle.verdict.proofs.Logged.{log_sound, answered_right, answered_alike}
use Rattle.verdict.proofs.Readings.{reading_enters, reading_once}
use Rattle.verdict.proofs.Translated.{listed_defined, listed_alike, translation_book}

pub one_verdict : OneVerdict
one_verdict = record {
  book_sound = log_sound;
  nodes_stay = λ log call. enters_grows call (log_sound log);
  reading_enters = reading_enters;
  reading_once = reading_once;
  same_rule = λ {book} {book'} log log' k k' h h'. same_rule book book' (log_sound log).ordered (log_sound log').ordered k k' h h';
  judging_enters = λ log call. (judged log call, inl (refl, refl, refl));
  judged_right = λ log place l verdict a. let o = answered_right log {place = place} {l = l} {b = verdict} a in (o.inside, o.right);
  judged_alike = λ log log' place place' l l' verdict verdict' r m a a'. answered_alike log log' {place = place} {place' = place'} {l = l} {l' = l'} {b = verdict} {b' = verdict'} r m a a';
  core_right = λ l inside r i. (core_right l inside r i, denial_right l inside r i);
  listed_defined = listed_defined;
  listed_alike = λ {book} {book'} r log log'. listed_alike (same_tree book book' (log_sound (translation_book log)).ordered (log_sound (translation_book log')).ordered r) log log';
}
