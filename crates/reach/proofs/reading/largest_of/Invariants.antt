use Rattle.reach.proofs.GoalLaws.{SoFar}
use Rattle.reach.proofs.reading.largest_of.Given as goal

abbrev pub invariant-loop-f : goal.invariant-loop-f
invariant-loop-f g l = SoFar (λ f x. goal.F-post g l.value f x) l.initial.f-iterator.left l.f-iterator l.largest
