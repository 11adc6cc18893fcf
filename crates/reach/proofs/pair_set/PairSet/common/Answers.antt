use Rattle.sets.proofs.FactLaws.{has_below}
use Rattle.reach.proofs.pair_set.PairSet.common.Goals as goal

pub row-requires : goal.row-requires
row-requires c = has_below c.loop-p.p-iterator.left c.in-Some.p c.in-Some.ensures.steps.0.0
