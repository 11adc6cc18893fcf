use Rattle.std.proofs.Common.{arith}
use Rattle.strips.proofs.SetLaws.{is_within, is_less}
use Rattle.strips.proofs.row.Row.job.Goals as goal

pub returns : goal.returns
returns c =
    let r = c.args.self.now in
    let needs = is_within c.args.n r.needs c.below.result (omega arith) (omega arith) c.below.ensures in
    let adds = is_within c.args.n r.adds c.below-adds.result (omega arith) (omega arith) c.below-adds.ensures in
    let deletes = is_less c.args.n r.adds c.below-adds.result r.deletes c.below-2.result c.minus.result (omega arith) (omega arith)
    c.below-adds.ensures c.below-2.ensures c.minus.ensures in
    cc
