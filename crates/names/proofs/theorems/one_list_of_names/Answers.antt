use Rattle.names.proofs.NameLaws.{one_list}
use Rattle.names.proofs.theorems.one_list_of_names.Goals as goal

pub returns : goal.returns
returns c = one_list
