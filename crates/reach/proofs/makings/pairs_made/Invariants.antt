use Rattle.std.proofs.Common.{ℕ, ◌<◌, Decides}
use Rattle.reach.specs.PairSets.{paired}
use Rattle.reach.proofs.MadeLaws.{MakesAt}
use Rattle.reach.proofs.makings.pairs_made.Given as goal

abbrev pub invariant-loop-j : goal.invariant-loop-j
invariant-loop-j g l =
    (p q : ℕ) → Decides (paired l.made p q) ((j : ℕ) × (j < l.j) × MakesAt (g.R.Rule.shares l.rule) l.single l.ready p q j)
