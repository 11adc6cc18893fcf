use Rattle.std.proofs.Common.{refl, rules, ◌||◌}
use lib.Bits.{bit_or}
use Rattle.sets.proofs.DigitLaws.{bit-or}
use Rattle.sets.proofs.FactLaws.{has_op}
use Rattle.sets.proofs.facts.FactSet.union.Goals as goal

pub returns : goal.returns
returns c =
    has_op bit_or ◌||◌ bit-or refl c.args.self c.args.other c.word_by_word.result (search rules) (search rules)
