use Rattle.std.proofs.Common.{refl, ap}
use Rattle.std.proofs.lemmas.Result.{err_from_is_err_and}
use Rattle.files.specs.Records.{ST, told}
use Rattle.files.specs.declared.record.Record.TheVariants.{Start}
use Rattle.files.specs.TaskFaults.FactsFault.{not_due}
use Rattle.files.proofs.RecordLaws.{not_found}
use Rattle.files.proofs.TaskReading.{facts_read}
use Rattle.files.proofs.facts.start_at.Goals as goal

pub returns-in_err-found : goal.returns-in_err-found
returns-in_err-found c =
    let p = err_from_is_err_and c.from_residual.result c.from_residual.ensures.1 in
    let (fault, at) = not_found c.args.file.now c.args.at ST Start c.in_err-found.field-0.0 (λ b. refl) c.in_err-found.ensures in
    rw (p.1, p.2) (not_due fault, at)

pub returns : goal.returns
returns c =
    facts_read ST c.args.n c.args.file.now c.args.at c.in_ok-found.found c.in_ok-found.ensures c.in-Start.list.now (ap told c.in-Start.is)
    c.in_ok-start.start c.in_ok-start.ensures
