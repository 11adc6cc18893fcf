use Rattle.std.proofs.Common.{◌≡◌, ◌<◌, length, arith}
use Rattle.sets.proofs.FactLaws.{has_below}
use Rattle.sets.proofs.WalkLaws.{begun_more}
use Rattle.reach.proofs.PairSetLaws.{joining_more}
use Rattle.reach.proofs.pair_set.PairSet.join.Goals as goal

pub bounds-self-p : goal.bounds-self-p
bounds-self-p c = has_below c.loop-p.p-iterator.left c.in-Some.p c.in-Some.ensures.steps.0.0

pub bounds-self-p-in-loop-p : goal.bounds-self-p-in-loop-p
bounds-self-p-in-loop-p c = has_below c.loop-p.p-iterator.left c.in-Some.p c.in-Some.ensures.steps.0.0

pub loop-p-preserved : goal.loop-p-preserved
loop-p-preserved c =
    let s = c.into_iter-p-iterator.result.left in
    let step = c.in-Some.ensures.steps in
    let low : c.in-Some.p < 128 = has_below c.loop-p.p-iterator.left c.in-Some.p step.0.0 in
    let long : length c.loop-p.self.rows ≡ 128 = omega arith in (
      begun_more s c.loop-p.p-iterator c.next.new.self c.in-Some.p step c.loop-p.invariant.0,
      joining_more c.args.self.now s c.loop-p.p-iterator c.args.with c.loop-p.self.rows c.next.new.self c.loop-p.invariant.1
          c.in-Some.p c.union.result step c.loop-p.invariant.0 (omega arith) c.union.ensures,
    )
