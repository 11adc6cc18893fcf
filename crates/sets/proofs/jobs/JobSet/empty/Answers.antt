use Rattle.sets.proofs.JobLaws.{no_jobs}
use Rattle.sets.proofs.jobs.JobSet.empty.Goals as goal

pub returns : goal.returns
returns c = no_jobs
