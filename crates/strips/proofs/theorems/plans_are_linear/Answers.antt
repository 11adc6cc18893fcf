use Rattle.strips.proofs.Linear.{plans_are_linear}
use Rattle.strips.proofs.theorems.plans_are_linear.Goals as goal

pub returns : goal.returns
returns c = plans_are_linear
