use Rattle.std.proofs.Common.{◌-◌, arith}
use Rattle.std.proofs.lemmas.Nat.{one_shl}
use Rattle.sets.proofs.FactLaws.{single_low, single_high}
use Rattle.sets.proofs.facts.FactSet.single.Goals as goal

pub returns-then-fact-lt64 : goal.returns-then-fact-lt64
returns-then-fact-lt64 c f = rw (one_shl c.args.fact 64 (omega arith)) (single_low c.args.fact f (omega arith))

pub returns-then-fact-lt128 : goal.returns-then-fact-lt128
returns-then-fact-lt128 c f =
    rw (one_shl (c.args.fact - 64) 64 (omega arith)) (single_high c.args.fact f (omega arith) (omega arith))
