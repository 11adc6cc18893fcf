use Rattle.std.proofs.lemmas.Result.{err_from_is_err_and}
use Rattle.files.proofs.SheetLaws.{refused_exactly}
use Rattle.files.proofs.sheet.read_sheet.Goals as goal

pub returns-in_err-check_rounds-clause-exact : goal.returns-in_err-check_rounds-clause-exact
returns-in_err-check_rounds-clause-exact c =
    let p = err_from_is_err_and c.from_residual.result c.from_residual.ensures.1 in
    rw p.1
    (refused_exactly c.args.book.now c.args.sheet.now c.args.file.now _ c.in_err-check_rounds.field-0.0.place c.in_err-check_rounds.ensures)
