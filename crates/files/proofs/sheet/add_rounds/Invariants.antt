use Rattle.std.proofs.Common.{length, ◌-◌}
use Rattle.files.proofs.SheetLaws.{ToAdd}
use Rattle.files.proofs.sheet.add_rounds.Given as goal

abbrev pub invariant-loop-at : goal.invariant-loop-at
invariant-loop-at l = ToAdd l.fn.book l.fn.sheet l.file l.at l.book l.sheet

abbrev pub decreases-loop-at : goal.decreases-loop-at
decreases-loop-at l = length l.file - l.at
