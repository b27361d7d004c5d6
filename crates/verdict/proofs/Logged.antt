-- The law over logs, sentence by sentence.
use Rattle.std.proofs.Common.{◌≡◌, Bool, true, ◌↔◌, List, length, sym, ap, ◌∙◌, subst, inl, inr, arith}
use Rattle.std.proofs.lemmas.List.{length-append}
use Rattle.rules.specs.Tables.{SoundBook, Grows}
use Rattle.rules.proofs.Kept.{sound_empty, enters_sound, enters_grows}
use Rattle.rules.specs.declared.node.Node.{Node}
use Rattle.rules.specs.declared.node.Place.{Place}
use Rattle.semantics.specs.Lassos.{Lasso, unrolled}
use Rattle.semantics.specs.Meaning.{Holds}
use Rattle.semantics.specs.Rules.{rule_at, SameRule}
use Rattle.semantics.proofs.Places.{rule_stays, same_tree}
use Rattle.verdict.specs.Law.{SameRecording}
use Rattle.verdict.specs.Logs.{BookLog, opened, entered, judged, begun, Answered}
use Rattle.verdict.proofs.Outcomes.{Outcome, outcome, agree}

pub log_sound : {book : List Node} → BookLog book → SoundBook book
log_sound opened = sound_empty
log_sound (entered log call) = enters_sound call (log_sound log)
log_sound (judged log call) = log_sound log
log_sound (begun log call) = log_sound log

-- what was answered of a book stays right as it grows
outcome_stays : {before after : List Node} {place : Place} {l : Lasso} {b : Bool} → SoundBook before → Grows before after → Outcome before place l b → Outcome after place l b
outcome_stays {before} {after} {place} {l} {b} s g o =
    let k = place.index in
    let same : rule_at after k ≡ rule_at before k = ap (λ B. rule_at B k) g.1 ∙ rule_stays before g.0 s.ordered k o.inside in
    record {
      inside = omega (arith, o.inside, ap length g.1, length-append before g.0);
      right = subst (λ r. (b ≡ true) ↔ Holds r (unrolled l) 0) (sym same) o.right;
    }

pub answered_right : {book : List Node} (log : BookLog book) {place : Place} {l : Lasso} {b : Bool} → Answered log place l b → Outcome book place l b
answered_right opened a = absurd a
answered_right (entered log call) {place} {l} {b} a = outcome_stays (log_sound log) (enters_grows call (log_sound log)) (answered_right log a)
answered_right (judged {book = B} {place = p} {recording = m} log call) {place} {l} {b} (inl q) =
    subst (λ x. Outcome B x l b) q.0 (subst (λ x. Outcome B p x b) q.1 (outcome call q.2))
answered_right (judged log call) {place} {l} {b} (inr a) = answered_right log a
answered_right (begun log call) {place} {l} {b} a = answered_right log a

pub answered_alike : {book book' : List Node} (log : BookLog book) (log' : BookLog book') {place place' : Place} {l l' : Lasso} {b b' : Bool}
    → SameRule book book' place.index place'.index → SameRecording l l' → Answered log place l b → Answered log' place' l' b' → b ≡ b'
answered_alike {book} {book'} log log' {place} {place'} {l} {l'} {b} {b'} r m a a' =
    let o = answered_right log a in
    let o' = answered_right log' a' in
    let tree : rule_at book place.index ≡ rule_at book' place'.index = same_tree book book' (log_sound log).ordered (log_sound log').ordered r in
    let lasso : l ≡ l' = (λ i. record { words = m.words i; start = m.start i }) in
    agree b b' (subst (λ x. (b ≡ true) ↔ Holds (rule_at book' place'.index) (unrolled x) 0) lasso (subst (λ t. (b ≡ true) ↔ Holds t (unrolled l) 0) tree o.right)) o'.right
