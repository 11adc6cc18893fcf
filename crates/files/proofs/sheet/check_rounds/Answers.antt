use Rattle.std.proofs.Common.{sym, refl}
use Rattle.std.proofs.lemmas.Result.{err_from_is_err_and}
use Rattle.files.specs.SheetFiles.{not_due, jobs, full}
use Rattle.files.proofs.SheetLaws.{passed_more, first_fault}
use Rattle.files.proofs.sheet.check_rounds.Goals as goal

pub loop-at-preserved : goal.loop-at-preserved
loop-at-preserved c =
    let (due, body, end) = c.in_ok-jobs.ensures in
    rw end (passed_more c.loop-at.invariant due (rw (body, c.m.ensures) at c.in_ok-check_list_at.ensures) (sym c.if-not-has_room.ensures))

pub returns-in_err-jobs : goal.returns-in_err-jobs
returns-in_err-jobs c =
    let p = err_from_is_err_and c.from_residual.result c.from_residual.ensures.1 in
    let (out, at) = c.in_err-jobs.ensures in
    rw (p.1, p.2) (first_fault c.loop-at.invariant _ c.in_err-jobs.field-0.0.place c.loop-at-test.true (not_due out) at)

pub returns-in_err-check_list_at : goal.returns-in_err-check_list_at
returns-in_err-check_list_at c =
    let (due, body, _) = c.in_ok-jobs.ensures in
    let (fault, at) = c.in_err-check_list_at.ensures in
    let p = err_from_is_err_and c.from_residual-in_err-check_list_at.result c.from_residual-in_err-check_list_at.ensures.1 in
    rw (p.1, p.2)
    (first_fault c.loop-at.invariant _ c.in_err-check_list_at.field-0.0.place c.loop-at-test.true
    (jobs due (rw (body, c.m.ensures) at fault)) at)

pub returns-then-not-has_room : goal.returns-then-not-has_room
returns-then-not-has_room c =
    let (due, body, _) = c.in_ok-jobs.ensures in
    rw c.at.ensures
    (first_fault c.loop-at.invariant 11 c.loop-at.at c.loop-at-test.true
    (full due (rw (c.m.ensures, body) at c.in_ok-check_list_at.ensures) (sym c.if-not-has_room.ensures) refl) refl)
