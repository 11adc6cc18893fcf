use Rattle.std.proofs.Common.{arith}
use Rattle.std.proofs.lemmas.List.{set-get_or}
use Rattle.std.proofs.lemmas.Result.{err_from_is_err_and}
use Rattle.files.proofs.TaskReading.{next_fault, all_jobs}
use Rattle.files.proofs.jobs.read_jobs.Goals as goal

pub returns-clause-jobs : goal.returns-clause-jobs
returns-clause-jobs c = all_jobs c.args.n c.args.file.now c.loop-row.rows c.loop-row.row-index c.loop-row.at (omega arith) c.loop-row.invariant

pub returns-in_err-row-clause-jobs : goal.returns-in_err-row-clause-jobs
returns-in_err-row-clause-jobs c =
    let p = err_from_is_err_and c.from_residual.result c.from_residual.ensures.1 in
    rw (set-get_or, p.1, p.2)
    (next_fault c.args.n c.args.file.now c.loop-row.rows c.loop-row.row-index c.loop-row.at c.in_err-row.field-0.0 (omega arith) c.loop-row.invariant c.in_err-row.ensures)
