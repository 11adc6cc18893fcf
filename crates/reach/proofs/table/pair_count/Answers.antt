use Rattle.std.proofs.Common.{refl}
use Rattle.layers.specs.Pairs.{pair_count}
use Rattle.reach.proofs.table.pair_count.Goals as goal

pub returns : goal.returns
unfolding pair_count
returns c = refl
