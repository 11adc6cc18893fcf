use Rattle.std.proofs.lemmas.Result.{err_from_is_err_and}
use Rattle.files.proofs.TaskReading.{goal_fault, more_bytes}
use Rattle.files.proofs.ends.header_at.Goals as goal

pub returns-in_err-goal : goal.returns-in_err-goal
returns-in_err-goal c =
    let p = err_from_is_err_and c.from_residual-in_err-goal.result c.from_residual-in_err-goal.ensures.1 in
    rw (p.1, p.2)
    (goal_fault c.args.counts.n c.args.file.now c.args.at c.in_ok-start.start c.in_ok-start.goal_place c.in_ok-start.ensures
    c.in_err-goal.field-0.0 c.in_err-goal.ensures)

pub returns-then-end-file : goal.returns-then-end-file
returns-then-end-file c =
    rw c.at.ensures
    (more_bytes c.args.counts.n c.args.file.now c.args.at c.in_ok-start.start c.in_ok-start.goal_place c.in_ok-start.ensures
    c.in_ok-goal.goal c.in_ok-goal.end c.in_ok-goal.ensures c.if-end-file.true)
