use Rattle.sets.proofs.WalkLaws.{Begun}
use Rattle.reach.proofs.PairSetLaws.{Joining}
use Rattle.reach.proofs.pair_set.PairSet.join.Given as goal

abbrev pub invariant-loop-p : goal.invariant-loop-p
invariant-loop-p l =
    Begun l.initial.p-iterator.left l.p-iterator
    × Joining l.initial.self l.self l.initial.p-iterator.left l.p-iterator l.with
