use Rattle.sets.proofs.WalkLaws.{Begun}
use Rattle.reach.proofs.PairSetLaws.{Shared}
use Rattle.reach.proofs.pair_set.PairSet.common.Given as goal

abbrev pub invariant-loop-p : goal.invariant-loop-p
invariant-loop-p l = Begun l.initial.p-iterator.left l.p-iterator × Shared l.self l.initial.p-iterator.left l.p-iterator l.common
