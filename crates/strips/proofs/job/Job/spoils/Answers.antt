use Rattle.std.proofs.lemmas.Bool.Decides.{Decides-at}
use Rattle.strips.specs.JobLaws.{decides_spoils, not_disjoint}
use Rattle.strips.proofs.job.Job.spoils.Goals as goal

pub returns : goal.returns
returns c =
    let a = c.args.self.now in
    let b = c.args.other.now in
    Decides-at _ _ (not_disjoint a b c.union.result c.is_disjoint.result c.union.ensures c.is_disjoint.ensures) (decides_spoils a b)
