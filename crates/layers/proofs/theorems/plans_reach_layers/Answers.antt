use Rattle.layers.proofs.PlansReach.{plans_reach}
use Rattle.layers.proofs.theorems.plans_reach_layers.Goals as goal

pub returns : goal.returns
returns c = plans_reach
