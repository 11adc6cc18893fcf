use Rattle.std.proofs.lemmas.Result.{err_from_is_err_and}
use Rattle.std.proofs.Common.{refl}
use Rattle.files.specs.Records.{TK}
use Rattle.files.specs.declared.record.Record.TheVariants.{Task}
use Rattle.files.specs.TaskFaults.TaskFault.{not_due}
use Rattle.files.proofs.RecordLaws.{not_found}
use Rattle.files.proofs.counts.read_counts.Goals as goal

pub returns-in_err-found : goal.returns-in_err-found
returns-in_err-found c =
    let p = err_from_is_err_and c.from_residual.result c.from_residual.ensures.1 in
    let (fault, at) = not_found c.args.file.now 0 TK Task c.in_err-found.field-0.0 (λ b. refl) c.in_err-found.ensures in
    rw (p.1, p.2) (not_due fault, at)
