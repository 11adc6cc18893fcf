use Rattle.files.proofs.TasksWithFiles.{tasks_with_files}
use Rattle.files.proofs.theorems.tasks_with_files.Goals as goal

pub returns : goal.returns
returns c = tasks_with_files
