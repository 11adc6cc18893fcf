use Rattle.report.proofs.OnePage.{one_page}
use Rattle.report.proofs.theorems.one_page.Goals as goal

pub returns : goal.returns
returns c = one_page
