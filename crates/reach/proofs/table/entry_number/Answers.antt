use Rattle.std.proofs.Common.{arith}
use Rattle.layers.specs.Pairs.{entry_number}
use Rattle.reach.proofs.EntryLaws.{pair_count_small}
use Rattle.reach.proofs.table.entry_number.Goals as goal

pub overflow_add-result : goal.overflow_add-result
overflow_add-result c = omega (arith, pair_count_small)

pub returns : goal.returns
unfolding entry_number
returns c = cc
