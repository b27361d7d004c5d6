use Rattle.std.proofs.Common.{Some, None, sym, ap, ◌∙◌, subst}
use Rattle.std.proofs.lemmas.Option.{none-some}
use Rattle.texts.specs.Numerals.{numeral}
use Rattle.linecheck.specs.Lines.{EdgeLine}
use Rattle.linecheck.proofs.Parts.{cut_there}
use Rattle.linecheck.proofs.text.edge_of.Goals as goal

pub returns-in_err-front : goal.returns-in_err-front
returns-in_err-front c =
    subst (EdgeLine c.args.line.now) (sym c.from_residual.ensures)
    (λ scan word h. cut_there c.args.line.now None scan word h c.in_err-front.ensures.cases)

pub returns-in_err-scan : goal.returns-in_err-scan
returns-in_err-scan c =
    subst (EdgeLine c.args.line.now) (sym c.from_residual-in_err-scan.ensures)
    (λ scan word h.
    let cut = cut_there c.args.line.now (Some (c.in_ok-front.front, c.in_ok-front.back)) scan word h c.in_ok-front.ensures.cases in
    none-some scan (c.in_err-scan.ensures ∙ ap (numeral 10 19) (c.as_bytes.ensures.value ∙ cut.0) ∙ h.scan_is))

pub returns-in_err-word : goal.returns-in_err-word
returns-in_err-word c =
    subst (EdgeLine c.args.line.now) (sym c.from_residual-in_err-word.ensures)
    (λ scan word h.
    let cut = cut_there c.args.line.now (Some (c.in_ok-front.front, c.in_ok-front.back)) scan word h c.in_ok-front.ensures.cases in
    none-some word (c.in_err-word.ensures ∙ ap (numeral 16 16) (c.as_bytes-2.ensures.value ∙ cut.1) ∙ h.word_is))
