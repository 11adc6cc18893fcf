use Rattle.std.proofs.Common.{◌+◌}
use Rattle.layers.specs.Pairs.{pair_count}
use Rattle.reach.specs.PairSets.{ReadBelow}
use Rattle.reach.proofs.reading.Reading.add_pairs_of.Given as goal

abbrev pub invariant-loop-p : goal.invariant-loop-p
invariant-loop-p l = ReadBelow l.reached l.self.t l.self.entries.now (pair_count l.q + l.p)
