use Rattle.std.proofs.Common.{◌%◌, arith}
use Rattle.std.proofs.lemmas.Nat.{one_shl}
use Rattle.sets.proofs.JobLaws.{includes_insert}
use Rattle.sets.proofs.jobs.JobSet.insert.Goals as goal

pub returns : goal.returns
returns c k =
    rw (one_shl (c.args.job % 64) 64 (omega arith)) (includes_insert c.args.self.now.words c.args.job k (omega arith))
