use Rattle.sets.proofs.FactLaws.{all_words}
use Rattle.sets.proofs.facts.FactSet.full.Goals as goal

pub returns : goal.returns
returns c = all_words
