use Rattle.std.proofs.Common.{◌-◌, ◌/◌, ◌^◌, sym, arith}
use lib.Bits.{and_mask}
use Rattle.sets.specs.Digits.{bit}
use Rattle.sets.proofs.FactLaws.{has_low, has_high, has_past}
use Rattle.sets.proofs.facts.FactSet.contains.Goals as goal

pub returns-then-fact-lt64 : goal.returns-then-fact-lt64
unfolding bit
returns-then-fact-lt64 c =
    rw (and_mask (c.args.self.low / 2 ^ c.args.fact) 1) (sym (has_low c.args.self c.args.fact (omega arith)))

pub returns-then-fact-lt128 : goal.returns-then-fact-lt128
unfolding bit
returns-then-fact-lt128 c =
    rw (and_mask (c.args.self.high / 2 ^ (c.args.fact - 64)) 1)
    (sym (has_high c.args.self c.args.fact (omega arith) (omega arith)))

pub returns-else-fact-lt128 : goal.returns-else-fact-lt128
returns-else-fact-lt128 c = sym (has_past c.args.self c.args.fact (omega arith))
