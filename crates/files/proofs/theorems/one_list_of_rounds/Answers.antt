use Rattle.files.proofs.SheetLaws.{one_list}
use Rattle.files.proofs.theorems.one_list_of_rounds.Goals as goal

pub returns : goal.returns
returns c = one_list
