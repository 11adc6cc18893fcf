use Rattle.std.proofs.Common.{sym}
use Rattle.reach.proofs.MakingLaws.{readied}
use Rattle.reach.proofs.ready.ready_job.Goals as goal

pub returns : goal.returns
returns g c =
    rw c.then_some.ensures
    (readied c.args.reached.now c.in_ok-job.job c.common-common.result c.common-common.ensures (g.S.Task.meaning c.args.task.now) c.args.j
    c.is_subset.result (sym c.in_ok-job.ensures) c.is_subset.ensures)
