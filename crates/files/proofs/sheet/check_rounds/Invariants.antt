use Rattle.std.proofs.Common.{length, ◌-◌}
use Rattle.files.proofs.SheetLaws.{Passed}
use Rattle.files.proofs.sheet.check_rounds.Given as goal

abbrev pub invariant-loop-at : goal.invariant-loop-at
invariant-loop-at l = Passed l.book l.sheet l.file l.at l.rounds

abbrev pub decreases-loop-at : goal.decreases-loop-at
decreases-loop-at l = length l.file - l.at
