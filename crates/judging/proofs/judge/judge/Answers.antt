use Rattle.std.proofs.Common.{◌≡◌, ◌*◌, ◌<◌, drop, Err, Decides, sym, refl, ap, ◌∙◌, subst, arith}
use Rattle.semantics.specs.Lassos.{unrolled}
use Rattle.semantics.specs.Meaning.{Holds}
use Rattle.semantics.specs.Rules.{rule_at}
use Rattle.judging.specs.Judging.{needed, refused, judged}
use Rattle.judging.specs.declared.fault.JudgeFault.TheVariants.{Short}
use Rattle.judging.specs.declared.fault.LentList.TheVariants.{Work}
use Rattle.judging.proofs.Passes.{fault_place, fault_short, fault_none}
use Rattle.judging.proofs.Tabled.{table_answers, table_bits}
use Rattle.judging.proofs.judge.judge.Goals as goal

pub returns-then-place-len : goal.returns-then-place-len
returns-then-place-len g c =
    let b = c.args.book.now in
    let l = g.R.Recording.meaning c.args.recording.now in
    let e = c.len.ensures.count in
    refused (fault_place b c.args.place l c.args.work.now (omega arith)) refl refl

pub returns-then-work-needed : goal.returns-then-work-needed
returns-then-work-needed g c =
    let b = c.args.book.now in
    let l = g.R.Recording.meaning c.args.recording.now in
    let e = c.count-needed.ensures in
    refused (fault_short b c.args.place l c.args.work.now (omega arith) (omega arith)) (ap (λ n. Err (Short Work (4 * n))) e) refl

pub returns : goal.returns
returns g c =
    let b = c.args.book.now in
    let l = g.R.Recording.meaning c.args.recording.now in
    let inside = (g.R.Recording.sound c.args.recording.now).inside in
    let sound = c.len.ensures.sound in
    let few = sound.few in
    let p = c.args.place.index in
    let work = c.fill_table.new.work in
    let e : 4 * c.count-needed.result ≡ needed l = ap (λ n. 4 * n) c.count-needed.ensures in
    let small : p < 256 = omega arith in
    let table = c.fill_table.ensures.table in
    let says = table_answers b sound.ordered few l inside p work table small in
    let cleared = subst (λ n. drop n c.clear.new.work ≡ drop n c.args.work.now) e c.clear.ensures.rest in
    judged (fault_none b c.args.place l c.args.work.now (omega arith) (omega arith)) refl
    (subst (λ r. Decides r (Holds (rule_at b p) (unrolled l) 0)) (sym c.truth.ensures) says)
    (record {
      truths = table_bits b sound.ordered few l inside p work table;
      rest = c.fill_table.ensures.rest ∙ cleared;
      long = c.fill_table.auto.work ∙ c.clear.auto.work;
    })
