use Rattle.std.proofs.Common.{◌≡◌}
use Rattle.strips.specs.Loading.{loaded}
use Rattle.pages.specs.Names.{named_by}
use Rattle.report.specs.declared.lines.Refused.TheVariants.{Plan}
use Rattle.report.specs.declared.no_page.NoPage.TheVariants.{Names}
use Rattle.report.specs.Pages.{front_of}
use Rattle.report.proofs.FilesLaws.{task_of}
use Rattle.report.proofs.PageLaws.{ok_of, plan_not_read, names_not_read, files_printed}
use Rattle.report.proofs.page.print_files.Goals as goal

pub returns-in_err-book : goal.returns-in_err-book
returns-in_err-book c =
    plan_not_read c.args.task_file.now c.args.plan_file.now c.args.names_file.now (loaded c.in_ok-header.header c.load_task.new.rows)
    (task_of c.args.task_file.now c.load_task.new.rows c.load_task.result c.load_task.ensures c.map_err.result c.map_err.ensures.cases
    c.in_ok-header.header c.in_ok-header.was)
    c.args.page.now c.from_residual-in_err-book.result c.read_plan.result c.read_plan.new.table c.read_plan.new.sheet c.read_plan.ensures
    c.map_err-2.result c.map_err-2.ensures.cases c.in_err-book.field-0.0 c.in_err-book.was c.from_residual-in_err-book.ensures.1

pub returns-in_err-map_err : goal.returns-in_err-map_err
returns-in_err-map_err c =
    let read = ok_of c.read_plan.result c.map_err-2.result (λ e y. y ≡ Plan e) c.map_err-2.ensures.cases c.in_ok-book.book c.in_ok-book.was in
    let (rs, sheet, led) = rw read at c.read_plan.ensures in
    names_not_read c.args.task_file.now c.args.plan_file.now c.args.names_file.now (loaded c.in_ok-header.header c.load_task.new.rows)
    (task_of c.args.task_file.now c.load_task.new.rows c.load_task.result c.load_task.ensures c.map_err.result c.map_err.ensures.cases
    c.in_ok-header.header c.in_ok-header.was)
    c.args.page.now c.from_residual-in_err-map_err.result rs sheet c.load_names.result c.load_names.new.places c.load_names.ensures
    c.map_err-3.result c.map_err-3.ensures.cases c.in_err-map_err.field-0.0 c.in_err-map_err.was c.from_residual-in_err-map_err.ensures.1

pub returns : goal.returns
returns c =
    let T = loaded c.in_ok-header.header c.load_task.new.rows in
    let read = ok_of c.read_plan.result c.map_err-2.result (λ e y. y ≡ Plan e) c.map_err-2.ensures.cases c.in_ok-book.book c.in_ok-book.was in
    let named = ok_of c.load_names.result c.map_err-3.result (λ e y. y ≡ Names e) c.map_err-3.ensures.cases tt c.in_ok-map_err.was in
    files_printed c.args.task_file.now c.args.plan_file.now c.args.names_file.now T
    (task_of c.args.task_file.now c.load_task.new.rows c.load_task.result c.load_task.ensures c.map_err.result c.map_err.ensures.cases
    c.in_ok-header.header c.in_ok-header.was)
    (named_by T.m c.load_names.new.places) (rw named at c.load_names.ensures) c.in_ok-book.book c.read_plan.new.table c.read_plan.new.sheet
    (rw read at c.read_plan.ensures) (front_of c.print_sheet.new.page c.print_sheet.result) c.print_sheet.ensures
