use Rattle.std.proofs.Common.{refl, rules, ◌&&◌}
use lib.Bits.{bit_and}
use Rattle.sets.proofs.DigitLaws.{bit-and}
use Rattle.sets.proofs.FactLaws.{has_op}
use Rattle.sets.proofs.facts.FactSet.meet.Goals as goal

pub returns : goal.returns
returns c =
    has_op bit_and ◌&&◌ bit-and refl c.args.self c.args.other c.word_by_word.result (search rules) (search rules)
