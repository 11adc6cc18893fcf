use Rattle.std.proofs.Common.{arith}
use Rattle.std.proofs.lemmas.Bool.Decides.{nat_tests}
use Rattle.reach.proofs.PairSetLaws.{paired_past}
use Rattle.reach.proofs.pair_set.PairSet.singles.Goals as goal

pub returns : goal.returns
returns c = λ f. let found = c.loop-p.invariant f in let past = paired_past c.args.self.now f f in grind (arith, nat_tests)
