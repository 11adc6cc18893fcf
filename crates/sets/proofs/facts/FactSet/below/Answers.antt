use Rattle.std.proofs.Common.{◌-◌, arith}
use lib.Bits.{and_mask}
use Rattle.std.proofs.lemmas.Nat.{one_shl}
use Rattle.sets.proofs.FactLaws.{below_low, below_high, below_all}
use Rattle.sets.proofs.facts.FactSet.below.Goals as goal

pub returns-then-n-lt64 : goal.returns-then-n-lt64
returns-then-n-lt64 c f =
    rw (one_shl c.args.n 64 (omega arith), and_mask c.args.self.low c.args.n)
    (below_low c.args.self c.args.n f (omega arith))

pub returns-then-n-lt128 : goal.returns-then-n-lt128
returns-then-n-lt128 c f =
    rw (one_shl (c.args.n - 64) 64 (omega arith), and_mask c.args.self.high (c.args.n - 64))
    (below_high c.args.self c.args.n f (omega arith))

pub returns-else-n-lt128 : goal.returns-else-n-lt128
returns-else-n-lt128 c f = below_all c.args.self c.args.n f (omega arith)
