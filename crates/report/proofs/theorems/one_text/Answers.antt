use Rattle.report.proofs.OneText.{one_text}
use Rattle.report.proofs.theorems.one_text.Goals as goal

pub returns : goal.returns
returns c = one_text
