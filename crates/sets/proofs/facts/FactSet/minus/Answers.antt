use Rattle.std.proofs.Common.{refl, rules, ◌&&◌, not}
use lib.Bits.{bit_and, bit_xor}
use Rattle.sets.proofs.DigitLaws.{bit_less}
use Rattle.sets.proofs.FactLaws.{has_op}
use Rattle.sets.proofs.facts.FactSet.minus.Goals as goal

pub returns : goal.returns
returns c =
    has_op (λ x y. bit_xor x (bit_and x y)) (λ x y. x && not y) bit_less refl c.args.self c.args.other c.word_by_word.result (search rules) (search rules)
