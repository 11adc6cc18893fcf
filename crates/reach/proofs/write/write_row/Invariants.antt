use Rattle.reach.proofs.WriteLaws.{Writing}
use Rattle.reach.proofs.write.write_row.Given as goal

abbrev pub invariant-loop-q : goal.invariant-loop-q
invariant-loop-q l = Writing l.p l.initial.q-iterator.left l.v l.initial.table l.table l.q-iterator
