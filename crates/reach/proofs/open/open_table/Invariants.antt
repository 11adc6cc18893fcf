use Rattle.layers.specs.Pairs.{pair_count}
use Rattle.reach.proofs.OpenLaws.{Opened, cleared}
use Rattle.reach.proofs.open.open_table.Given as goal

abbrev pub invariant-loop-p : goal.invariant-loop-p
invariant-loop-p g l = Opened l.start (cleared (pair_count l.n) l.fn.table) l.table l.p-iterator
