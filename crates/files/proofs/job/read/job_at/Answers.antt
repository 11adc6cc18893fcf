use Rattle.std.proofs.lemmas.Result.{err_from_is_err_and}
use Rattle.std.proofs.Common.{refl}
use Rattle.files.specs.Records.{AC}
use Rattle.files.specs.declared.record.Record.TheVariants.{Job}
use Rattle.files.specs.TaskFaults.JobFault.{not_due}
use Rattle.files.proofs.RecordLaws.{not_found}
use Rattle.files.proofs.TaskReading.{job_read, job_fault}
use Rattle.files.proofs.job.read.job_at.Goals as goal

pub returns-in_err-found : goal.returns-in_err-found
returns-in_err-found c =
    let p = err_from_is_err_and c.from_residual.result c.from_residual.ensures.1 in
    let (fault, at) = not_found c.args.file.now c.args.at AC Job c.in_err-found.field-0.0 (λ b. refl) c.in_err-found.ensures in
    rw (p.1, p.2) (not_due fault, at)

pub returns-in_err-row : goal.returns-in_err-row
returns-in_err-row c =
    let p = err_from_is_err_and c.from_residual-in_err-row.result c.from_residual-in_err-row.ensures.1 in
    rw (p.1, p.2)
    (job_fault c.args.n c.args.file.now c.args.at c.in_ok-found.found c.in_ok-found.ensures c.in-Job.body c.in-Job.is c.in_err-row.field-0.0
    c.in_err-row.ensures)

pub returns : goal.returns
returns c =
    job_read c.args.n c.args.file.now c.args.at c.in_ok-found.found c.in_ok-found.ensures c.in-Job.body c.in-Job.is c.in_ok-row.row
    c.in_ok-row.ensures
