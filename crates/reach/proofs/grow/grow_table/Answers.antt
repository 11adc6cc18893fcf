use Rattle.std.proofs.Common.{arith}
use Rattle.layers.proofs.LayerLaws.{enters_below}
use Rattle.layers.proofs.PairLaws.{pair_count_few}
use Rattle.reach.specs.Makings.{In}
use Rattle.reach.proofs.MadeLaws.{enters_if_made}
use Rattle.reach.proofs.GrowLaws.{grown}
use Rattle.reach.proofs.grow.grow_table.Goals as goal

pub overflow_add-t : goal.overflow_add-t
overflow_add-t g c =
    let is = c.in_ok-reading.ensures.facts in
    let few = c.in_ok-reading.reading.few in
    omega (arith, pair_count_few)

pub write_new-requires-clause-facts : goal.write_new-requires-clause-facts
write_new-requires-clause-facts g c p q there =
    let T = g.S.Task.meaning c.args.task.now in
    let ok = g.S.Task.admitted c.args.task.now in
    let s = c.reached-reached.result in
    let is = c.in_ok-reading.ensures.facts in
    let makes =
    c.pairs_made-made.ensures T ok c.ready_jobs.ensures
    (λ f e. let (lt, _, _) = (c.reached-reached.ensures.read f f).0 e in omega arith) in
    let enters = enters_if_made T (g.R.Rule.shares c.args.rule.now) (In s) p q ((makes p q).0 there) in
    let (_, lt) = enters_below T (g.R.Rule.shares c.args.rule.now) ok (In s) p q enters in
    omega arith

pub returns : goal.returns
returns g c =
    let T = g.S.Task.meaning c.args.task.now in
    let R = g.R.Rule.shares c.args.rule.now in
    let ok = g.S.Task.admitted c.args.task.now in
    let tb = c.args.table.now in
    let s = c.reached-reached.result in
    let is = c.in_ok-reading.ensures in
    let facts = is.facts in
    let makes =
    c.pairs_made-made.ensures T ok c.ready_jobs.ensures
    (λ f e. let (lt, _, _) = (c.reached-reached.ensures.read f f).0 e in omega arith) in
    grown T R ok
    record { symmetric = g.met.R.Rule.symmetric c.args.rule.now; harmless = g.met.R.Rule.harmless c.args.rule.now }
    c.args.t tb (rw (is.entries, is.facts) at c.in_ok-reading.reading.room) s c.pairs_made-made.result
    (rw (is.entries, is.facts, is.layer) at c.reached-reached.ensures.read) makes
    c.write_new.new.table c.write_new.result
    (rw (c.pair_count.ensures, c.n-n.ensures) at c.if-t-pair_count.false)
    (rw c.n-n.ensures at c.write_new.ensures)
