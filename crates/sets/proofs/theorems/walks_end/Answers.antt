use Rattle.sets.proofs.Walked.{fact_walks_end, member_walks_end}
use Rattle.sets.proofs.theorems.walks_end.Goals as goal

pub returns : goal.returns
returns c = record { facts = fact_walks_end; members = member_walks_end }
