use Rattle.cases.proofs.WorkedCases.{worked_cases}
use Rattle.cases.proofs.worked.worked_cases.Goals as goal

pub returns : goal.returns
returns c = worked_cases
