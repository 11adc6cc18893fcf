use Rattle.strips.proofs.RoundLaws.{Gathering}
use Rattle.strips.proofs.round.state_after.Given as goal

abbrev pub invariant-loop-j : goal.invariant-loop-j
invariant-loop-j g l = Gathering (g.S.Task.meaning l.task) l.place l.j-iterator l.adds l.deletes
