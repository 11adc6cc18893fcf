use Rattle.std.proofs.Common.{◌≡◌, ℕ, ◌*◌, ◌<◌, ◌≤◌, false}
use Rattle.sets.specs.Jobs.{includes}
use Rattle.sets.proofs.jobs.JobSet.next.Given as goal

abbrev pub invariant-loop-w : goal.invariant-loop-w
invariant-loop-w l = (j : ℕ) → l.from ≤ j → j < 64 * l.w → includes l.self j ≡ false
