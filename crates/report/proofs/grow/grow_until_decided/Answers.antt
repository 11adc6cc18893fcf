use Rattle.std.proofs.lemmas.Result.{err_from_is_err_and}
use Rattle.strips.specs.Rules.{apart}
use Rattle.report.proofs.GrowingLaws.{not_yet, once_more, ended, asking_refused, growing_accepted}
use Rattle.report.proofs.grow.grow_until_decided.Goals as goal

pub loop-book-init : goal.loop-book-init
loop-book-init g c = not_yet (g.S.Task.meaning c.args.task.now) apart c.args.book.now c.args.table.now

pub loop-book-preserved : goal.loop-book-preserved
loop-book-preserved g c =
    (once_more c.loop-book.invariant c.in-AtLeast.field-0 c.grow.result c.grow.new.self c.grow.new.table
    (rw c.in-AtLeast.is at c.in_ok-distance.ensures.answer) c.grow.ensures).1

pub loop-book-smaller : goal.loop-book-smaller
loop-book-smaller g c =
    (once_more c.loop-book.invariant c.in-AtLeast.field-0 c.grow.result c.grow.new.self c.grow.new.table
    (rw c.in-AtLeast.is at c.in_ok-distance.ensures.answer) c.grow.ensures).0

pub returns : goal.returns
returns g c = ended c.loop-book.invariant c.in_ok-distance.field-0 c.in_ok-distance.ensures.answer c.in_default.not-AtLeast

pub returns-in_err-distance : goal.returns-in_err-distance
returns-in_err-distance g c =
    let p = err_from_is_err_and c.from_residual.result c.from_residual.ensures.1 in
    rw (p.1, p.2) (asking_refused c.loop-book.invariant c.in_err-distance.field-0.0 c.in_err-distance.ensures.answer)

pub returns-in_err-grow : goal.returns-in_err-grow
returns-in_err-grow g c =
    absurd (growing_accepted (g.S.Task.meaning c.args.task.now) apart c.loop-book.book c.loop-book.table c.in-AtLeast.field-0
    c.in_err-grow.field-0.0 c.grow.new.self c.grow.new.table
    (rw c.in-AtLeast.is at c.in_ok-distance.ensures.answer) c.in_err-grow.ensures)
