use Rattle.strips.specs.Rules.{apart}
use Rattle.report.proofs.GrowingLaws.{left, SoFar}
use Rattle.report.proofs.grow.grow_until_decided.Given as goal

abbrev pub invariant-loop-book : goal.invariant-loop-book
invariant-loop-book g l = SoFar (g.S.Task.meaning l.task) apart l.initial.book l.initial.table l.book l.table

abbrev pub decreases-loop-book : goal.decreases-loop-book
decreases-loop-book g l = left (g.S.Task.meaning l.task).n l.book
