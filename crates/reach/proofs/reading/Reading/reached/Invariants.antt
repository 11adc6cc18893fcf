use Rattle.layers.specs.Pairs.{pair_count}
use Rattle.reach.specs.PairSets.{ReadBelow}
use Rattle.reach.proofs.reading.Reading.reached.Given as goal

abbrev pub invariant-loop-q : goal.invariant-loop-q
invariant-loop-q l = ReadBelow l.reached l.self.t l.self.entries.now (pair_count l.q)
