use Rattle.std.proofs.Common.{arith}
use Rattle.strips.proofs.SetLaws.{is_within}
use Rattle.strips.proofs.moved_start.MovedStartTask.start.Goals as goal

pub returns : goal.returns
returns g c =
    is_within (g.B.Task.meaning c.args.self.now.below).n c.args.self.now.start c.below.result (omega arith) (omega arith)
    (λ f. rw c.n.ensures at (c.below.ensures f))
