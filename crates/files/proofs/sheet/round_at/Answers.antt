use Rattle.std.proofs.lemmas.Result.{err_from_is_err_and}
use Rattle.std.proofs.Common.{refl}
use Rattle.files.specs.Records.{RD}
use Rattle.files.specs.declared.record.Record.TheVariants.{Round}
use Rattle.files.proofs.RecordLaws.{not_found}
use Rattle.files.proofs.sheet.round_at.Goals as goal

pub returns-in_err-found : goal.returns-in_err-found
returns-in_err-found c =
    let p = err_from_is_err_and c.from_residual.result c.from_residual.ensures.1 in
    rw (p.1, p.2) (not_found c.args.file.now c.args.at RD Round c.in_err-found.field-0.0 (λ b. refl) c.in_err-found.ensures)
