use Rattle.std.proofs.Common.{rules}
use Rattle.reach.proofs.GoalLaws.{largest_within}
use Rattle.reach.proofs.reading.Reading.largest_within.Goals as goal

pub returns : goal.returns
returns c = largest_within _ c.args.set c.args.self.now.entries.now c.largest_of.result (λ p x h. search rules) c.largest_of.ensures
