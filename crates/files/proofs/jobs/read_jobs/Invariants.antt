use Rattle.files.proofs.TaskReading.{JobsSoFar}
use Rattle.files.proofs.jobs.read_jobs.Given as goal

abbrev pub invariant-loop-row : goal.invariant-loop-row
invariant-loop-row l = JobsSoFar l.n l.file l.rows l.row-index l.at
