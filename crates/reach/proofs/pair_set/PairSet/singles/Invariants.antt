use Rattle.std.proofs.Common.{◌≡◌, ℕ, ◌&&◌, ltb}
use Rattle.sets.specs.Facts.{has}
use Rattle.reach.specs.PairSets.{paired}
use Rattle.reach.proofs.pair_set.PairSet.singles.Given as goal

abbrev pub invariant-loop-p : goal.invariant-loop-p
invariant-loop-p l = (f : ℕ) → has l.singles f ≡ (ltb f l.p && paired l.self f f)
