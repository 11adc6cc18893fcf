use Rattle.files.proofs.TaskLaws.{one_task}
use Rattle.files.proofs.theorems.one_task.Goals as goal

pub returns : goal.returns
returns c = one_task
