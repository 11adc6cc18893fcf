use Rattle.std.proofs.lemmas.Result.{err_from_is_err_and}
use Rattle.report.proofs.PlanLaws.{reading_refused, reading_led, opening_accepted}
use Rattle.report.proofs.judge.read_plan.Goals as goal

pub returns-in_err-book : goal.returns-in_err-book
returns-in_err-book g c =
    absurd (opening_accepted (g.S.Task.meaning c.args.task.now) (g.S.Task.admitted c.args.task.now) c.args.table.now
    c.in_err-book.field-0.0 c.open.new.table c.requires.entries c.in_err-book.ensures)

pub returns-in_err-read_sheet : goal.returns-in_err-read_sheet
returns-in_err-read_sheet g c =
    let p = err_from_is_err_and c.from_residual-in_err-read_sheet.result c.from_residual-in_err-read_sheet.ensures.1 in
    rw (p.1, p.2) (reading_refused (g.S.Task.meaning c.args.task.now) c.args.plan_file.now c.in_ok-check_size.ensures c.args.table.now c.in_ok-book.book c.open.new.table
    c.in_ok-book.ensures c.args.sheet.now c.requires.places c.in_err-read_sheet.field-0.0 c.in_err-read_sheet.ensures.read.0)

pub returns : goal.returns
returns g c =
    reading_led (g.S.Task.meaning c.args.task.now) c.args.plan_file.now c.in_ok-check_size.ensures c.args.table.now c.in_ok-book.book c.open.new.table
    c.in_ok-book.ensures c.args.sheet.now c.requires.places c.read_sheet.new.book c.read_sheet.new.sheet c.in_ok-read_sheet.ensures.read
