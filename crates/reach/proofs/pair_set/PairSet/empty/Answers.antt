use Rattle.reach.proofs.PairSetLaws.{paired_none}
use Rattle.reach.proofs.pair_set.PairSet.empty.Goals as goal

pub returns : goal.returns
returns c = paired_none c.empty.result c.empty.ensures
