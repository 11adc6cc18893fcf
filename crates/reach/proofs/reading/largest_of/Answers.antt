use Rattle.std.proofs.Common.{ℕ}
use Rattle.reach.proofs.GoalLaws.{so_far_more}
use Rattle.reach.proofs.reading.largest_of.Goals as goal

pub loop-f-preserved : goal.loop-f-preserved
loop-f-preserved g c =
    so_far_more (λ (f x : ℕ). goal.F-post g c.args.value f x) c.into_iter-f-iterator.result.left c.loop-f.f-iterator c.loop-f.largest
    c.loop-f.invariant c.next.new.self c.in-Some.f c.value.result c.max-largest.result c.in-Some.ensures.steps c.value.ensures c.max-largest.ensures
