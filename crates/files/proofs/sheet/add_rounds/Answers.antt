use Rattle.files.proofs.SheetLaws.{next_read, next_added, next_taken, none_to_add}
use Rattle.files.proofs.sheet.add_rounds.Goals as goal

pub returns-in_err-jobs : goal.returns-in_err-jobs
returns-in_err-jobs c = absurd (next_read c.loop-at.invariant _ c.loop-at-test.true c.in_err-jobs.ensures.0)

pub returns-in_err-add : goal.returns-in_err-add
returns-in_err-add c =
    absurd
    (next_taken c.loop-at.invariant c.in_err-add.field-0.0 c.add.new.self c.add.new.sheet c.loop-at-test.true
    (rw c.in_ok-jobs.ensures.1 at c.in_err-add.ensures))

pub loop-at-preserved : goal.loop-at-preserved
loop-at-preserved c =
    let (due, body, end) = c.in_ok-jobs.ensures in
    rw end (next_added c.loop-at.invariant c.add.result c.add.new.self c.add.new.sheet c.loop-at-test.true (rw body at c.add.ensures)).1

pub returns-clause-read : goal.returns-clause-read
returns-clause-read c = none_to_add c.loop-at.invariant c.loop-at-test.false
