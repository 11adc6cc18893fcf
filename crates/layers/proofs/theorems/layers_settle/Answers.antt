use Rattle.layers.proofs.Settling.{layers_settle}
use Rattle.layers.proofs.theorems.layers_settle.Goals as goal

pub returns : goal.returns
returns c = layers_settle
