use Rattle.std.proofs.Common.{sym, ◌∙◌, arith}
use Rattle.sets.specs.Jobs.{includes}
use Rattle.sets.proofs.SearchLaws.{any_none, listed_all, listed_next}
use Rattle.sets.proofs.jobs.JobSet.of.Goals as goal

pub loop-job-init : goal.loop-job-init
loop-job-init c k = c.empty-set.ensures k ∙ sym (any_none _)

pub loop-job-preserved : goal.loop-job-preserved
loop-job-preserved c k =
    listed_next c.args.jobs.now c.loop-job.job-index k (includes c.loop-job.set k) (includes c.insert.new.self k)
    (c.loop-job.invariant k) (c.insert.ensures k)

pub returns : goal.returns
returns c k = c.loop-job.invariant k ∙ listed_all c.args.jobs.now c.loop-job.job-index k (omega arith)
