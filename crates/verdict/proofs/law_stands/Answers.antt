use Rattle.verdict.proofs.Lines.{worked}
use Rattle.verdict.proofs.Whole.{one_verdict}
use Rattle.verdict.proofs.law_stands.Goals as goal

pub returns : goal.returns
returns c = record { law = one_verdict; worked = worked }
