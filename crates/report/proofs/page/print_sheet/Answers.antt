use Rattle.std.proofs.Common.{◌≡◌}
use Rattle.report.specs.declared.lines.Refused.TheVariants.{Plan}
use Rattle.report.proofs.PageLaws.{ok_of, err_of, report_of, not_refused, printed_page, not_issued}
use Rattle.report.proofs.page.print_sheet.Goals as goal

pub returns-in_ok-map_err-in-Ok : goal.returns-in_ok-map_err-in-Ok
returns-in_ok-map_err-in-Ok g c rs led few =
    printed_page (g.S.Task.meaning c.args.task.now) (g.S.NamedTask.names c.args.task.now) (g.S.Task.admitted c.args.task.now)
    c.args.book c.args.table.now c.args.sheet.now c.answer.new.book c.answer.new.table c.answer.ensures.grown rs led few
    c.in-Ok.issued c.in-Ok.ensures.answer c.in-Ok.ensures.runs c.args.page.now c.print_page.new.page c.requires c.print_page.result
    c.print_page.ensures.runs c.in_ok-map_err-in-Ok.field-0
    (ok_of c.print_page.result c.map_err-in-Ok.result (λ e y. y ≡ Plan e) c.map_err-in-Ok.ensures.cases
    c.in_ok-map_err-in-Ok.field-0 c.in_ok-map_err-in-Ok.was)

pub returns-in_err-map_err-in-Ok : goal.returns-in_err-map_err-in-Ok
returns-in_err-map_err-in-Ok g c rs led few =
    let (e, is, _) = err_of c.print_page.result c.map_err-in-Ok.result (λ e y. y ≡ Plan e) c.map_err-in-Ok.ensures.cases
    c.in_err-map_err-in-Ok.field-0.0 c.in_err-map_err-in-Ok.was in
    absurd (not_refused (g.S.Task.meaning c.args.task.now) (g.S.NamedTask.names c.args.task.now) (g.S.Task.admitted c.args.task.now)
    c.args.book c.args.table.now c.args.sheet.now c.answer.new.book c.answer.new.table c.answer.ensures.grown rs led few
    c.in-Ok.issued c.in-Ok.ensures.answer c.in-Ok.ensures.runs c.args.page.now c.print_page.new.page c.requires c.print_page.result
    c.print_page.ensures.runs e is)

pub returns-in-Err : goal.returns-in-Err
returns-in-Err g c rs led few =
    let T = g.S.Task.meaning c.args.task.now in
    let N = g.S.NamedTask.names c.args.task.now in
    let ok = g.S.Task.admitted c.args.task.now in
    let (no_plan, numbers) = not_issued T N ok c.args.book c.args.table.now c.args.sheet.now c.answer.new.book c.answer.new.table
    c.answer.ensures.grown rs led few c.in-Err.not_issued c.in-Err.ensures.runs in
    let answer = report_of T N ok c.args.book c.args.table.now c.args.sheet.now c.answer.new.book c.answer.new.table
    c.answer.ensures.grown rs led few c.answer.result c.answer.ensures.answers in
    let is = ok_of c.answer.result c.map_err.result (λ e y. y ≡ Plan e) c.map_err.ensures.cases c.in_ok-report.report c.in_ok-report.was in
    (no_plan, rw is at answer, numbers)
