use Rattle.std.proofs.Common.{◌-◌, ◌≤◌}
use Rattle.boundary.proofs.GrowthLaws.{SoFar}
use Rattle.boundary.proofs.grow.grow_times.Given as goal

abbrev pub invariant-loop-done : goal.invariant-loop-done
invariant-loop-done g l = record {
  few : l.done ≤ l.growings;
  so_far : SoFar (g.S.Task.meaning l.task) (g.R.Rule.shares l.rule) l.fn.table l.done l.book l.table;
}

abbrev pub decreases-loop-done : goal.decreases-loop-done
decreases-loop-done g l = l.growings - l.done
