use Rattle.std.proofs.Common.{arith}
use Rattle.std.proofs.lemmas.Bool.{both_ways}
use Rattle.sets.proofs.FactLaws.{lowest_low, lowest_high, no_words}
use Rattle.sets.proofs.facts.FactSet.lowest.Goals as goal

pub returns-then-self-ne0 : goal.returns-then-self-ne0
returns-then-self-ne0 c = lowest_low c.args.self (omega arith) c.if-self-ne0.true

pub returns-then-self-ne0-2 : goal.returns-then-self-ne0-2
returns-then-self-ne0-2 c = lowest_high c.args.self (omega arith) (omega arith) c.if-self-ne0-2.true

pub returns-else-self-ne0-2 : goal.returns-else-self-ne0-2
returns-else-self-ne0-2 c f = both_ways _ (no_words c.args.self f (omega arith) (omega arith))
