use Rattle.std.proofs.Common.{refl}
use Rattle.sets.proofs.FactLaws.{no_words}
use Rattle.sets.proofs.facts.FactSet.empty.Goals as goal

pub returns : goal.returns
returns c f = no_words (record { low = 0; high = 0 }) f refl refl
