use Rattle.std.proofs.lemmas.Result.{err_from_is_err_and}
use Rattle.files.proofs.TaskLaws.{not_at_fault}
use Rattle.files.proofs.load.load.Goals as goal

pub returns-in_err-header-clause-exact : goal.returns-in_err-header-clause-exact
returns-in_err-header-clause-exact c =
    let p = err_from_is_err_and c.from_residual.result c.from_residual.ensures.1 in
    rw p.1
    (λ h new t room. not_at_fault h new c.args.file.now t _ _ c.in_err-header.field-0.0.place room c.in_err-header.ensures.parsed)
