use Rattle.std.proofs.Common.{◌*◌, ◌-◌, arith}
use Rattle.cases.proofs.RailSets.{is_two}
use Rattle.cases.proofs.own.rails.RailsTask.goal.Goals as goal

pub returns : goal.returns
returns c =
    let k = c.args.self.now.places in
    is_two (2 * k) (k - 1) (2 * k - 1) c.single.result c.insert.result (omega arith) (omega arith) c.args.self.now.few_facts
    (omega (arith, c.args.self.now.some_fact)) (omega (arith, c.args.self.now.some_fact)) c.single.ensures c.insert.ensures
