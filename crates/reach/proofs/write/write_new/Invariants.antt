use Rattle.reach.specs.PairSets.{Wrote}
use Rattle.reach.proofs.write.write_new.Given as goal

abbrev pub invariant-loop-p : goal.invariant-loop-p
invariant-loop-p l = Wrote l.made l.reached l.p l.v l.initial.table l.table l.any
