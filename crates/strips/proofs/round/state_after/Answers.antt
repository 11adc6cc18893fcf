use Rattle.std.proofs.Common.{◌∙◌}
use Rattle.strips.proofs.RoundLaws.{gathering_none, gathering_more, gathering_past, gathering_all}
use Rattle.strips.proofs.round.state_after.Goals as goal

pub loop-j-init : goal.loop-j-init
loop-j-init g c =
    gathering_none (g.S.Task.meaning c.args.task.now) c.args.place.now c.into_iter-j-iterator.result c.m.result
    c.empty-adds.result c.empty-deletes.result (c.into_iter-j-iterator.ensures.into_iter_gives ∙ c.below-j-items.ensures) c.m.ensures
    c.empty-adds.ensures c.empty-deletes.ensures

pub loop-j-preserved-in-Some-job : goal.loop-j-preserved-in-Some-job
loop-j-preserved-in-Some-job g c =
    gathering_more (g.S.Task.meaning c.args.task.now) c.args.place.now c.loop-j.j-iterator c.loop-j.adds c.loop-j.deletes
    c.loop-j.invariant c.next.new.self c.in-Some.j c.in-Some-job.job c.union-adds.result c.union-deletes.result
    c.in-Some.ensures.steps c.in-Some-job.ensures c.union-adds.ensures c.union-deletes.ensures

pub loop-j-preserved : goal.loop-j-preserved
loop-j-preserved g c =
    gathering_past (g.S.Task.meaning c.args.task.now) c.args.place.now c.loop-j.j-iterator c.loop-j.adds c.loop-j.deletes
    c.loop-j.invariant c.next.new.self c.in-Some.j c.in-Some.ensures.steps c.in_default.ensures

pub returns : goal.returns
returns g c =
    gathering_all (g.S.Task.meaning c.args.task.now) c.args.place.now c.loop-j.j-iterator c.loop-j.adds c.loop-j.deletes
    c.loop-j.invariant c.args.state c.union.result c.minus.result c.in-None.ensures.steps.0 c.union.ensures c.minus.ensures
