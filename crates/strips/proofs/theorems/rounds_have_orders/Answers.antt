use Rattle.strips.proofs.Orders.{rounds_have_orders}
use Rattle.strips.proofs.theorems.rounds_have_orders.Goals as goal

pub returns : goal.returns
returns c = rounds_have_orders
