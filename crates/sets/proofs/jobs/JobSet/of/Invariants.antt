use Rattle.std.proofs.Common.{◌≡◌, ℕ, eqb, get_or}
use Rattle.sets.specs.Jobs.{includes}
use Rattle.sets.specs.Search.{any}
use Rattle.sets.proofs.jobs.JobSet.of.Given as goal

abbrev pub invariant-loop-job : goal.invariant-loop-job
invariant-loop-job l = (k : ℕ) → includes l.set k ≡ any l.job-index (λ i. eqb k (get_or l.jobs i 0))
