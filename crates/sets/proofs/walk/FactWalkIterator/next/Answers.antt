use Rattle.sets.proofs.SizeLaws.{size_less}
use Rattle.sets.proofs.WalkLaws.{one_less}
use Rattle.sets.proofs.walk.FactWalkIterator.next.Goals as goal
use Rattle.std.proofs.iter.Next.{firm}
use Rattle.std.proofs.Common.{rules}

pub returns : goal.returns
returns c =
    let low = c.in_ok-fact.ensures in
    let gone = one_less c.args.self.now.left c.single.result c.minus-self.result c.in_ok-fact.fact c.single.ensures c.minus-self.ensures in
    record {
      steps = (low, gone);
      goes = firm ((tt, tt, size_less c.args.self.now.left c.minus-self.result c.in_ok-fact.fact low.0 gone)) (λ h. search rules);
    }
