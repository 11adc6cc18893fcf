use Rattle.std.proofs.Common.{inl, inr, arith, rules}
use Rattle.std.proofs.lemmas.Result.{err_from_is_err_and}
use Rattle.boundary.proofs.GrowthLaws.{none_yet, once_more, not_refused, grown_by}
use Rattle.boundary.proofs.grow.grow_times.Goals as goal

pub loop-done-init : goal.loop-done-init
loop-done-init g c = record {
  few = omega arith;
  so_far =
      none_yet (g.S.Task.meaning c.args.task.now) (g.R.Rule.shares c.args.rule.now) c.args.table.now c.in_ok-book.book
      c.open.new.table c.in_ok-book.ensures;
}

pub loop-done-preserved : goal.loop-done-preserved
loop-done-preserved g c = record {
  few = let lt = c.loop-done-test.true in omega arith;
  so_far =
      once_more (g.S.Task.meaning c.args.task.now) (g.R.Rule.shares c.args.rule.now) c.args.table.now c.loop-done.invariant.so_far
      c.grow.result c.grow.new.self c.grow.new.table c.grow.ensures;
}

pub returns-in_err-book : goal.returns-in_err-book
returns-in_err-book g c =
    let p = err_from_is_err_and c.from_residual.result c.from_residual.ensures.1 in
    rw (p.1, p.2) c.in_err-book.ensures

pub returns-in_err-grow : goal.returns-in_err-grow
returns-in_err-grow g c =
    absurd (not_refused (g.S.Task.meaning c.args.task.now) (g.R.Rule.shares c.args.rule.now) c.args.table.now
    c.loop-done.invariant.so_far (g.S.Task.admitted c.args.task.now)
    record { symmetric = g.met.R.Rule.symmetric c.args.rule.now; harmless = g.met.R.Rule.harmless c.args.rule.now } c.in_err-grow.field-0.0 c.grow.new.self c.grow.new.table (search rules) c.in_err-grow.ensures)

pub returns-after-loop-done : goal.returns-after-loop-done
returns-after-loop-done g c =
    grown_by (g.S.Task.meaning c.args.task.now) (g.R.Rule.shares c.args.rule.now) c.args.table.now c.loop-done.invariant.so_far
    (g.S.Task.admitted c.args.task.now)
    record { symmetric = g.met.R.Rule.symmetric c.args.rule.now; harmless = g.met.R.Rule.harmless c.args.rule.now }
    c.args.growings (inl (let le = c.loop-done.invariant.few in let end = c.loop-done-test.false in omega arith))

pub returns-else-not-is_settled : goal.returns-else-not-is_settled
returns-else-not-is_settled g c =
    grown_by (g.S.Task.meaning c.args.task.now) (g.R.Rule.shares c.args.rule.now) c.args.table.now c.loop-done.invariant.so_far
    (g.S.Task.admitted c.args.task.now)
    record { symmetric = g.met.R.Rule.symmetric c.args.rule.now; harmless = g.met.R.Rule.harmless c.args.rule.now }
    c.args.growings (inr (c.loop-done.invariant.few, search rules))
