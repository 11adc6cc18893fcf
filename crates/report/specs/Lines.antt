-- What is printed.
--
--   line text             a line: the text, and hex 0A behind it
--   shortest_word v e     `yes` if the verdict v is sound and the excess e is 0, which is when the sheet is called
--                         shortest, else `no`
--   lines_of rep          the four lines of the report rep: its rounds, distance, verdict, and whether the sheet is
--                         called shortest
--   refused_line name t   the line of what is refused: its name, and the two numbers t of the refusal, its own and its
--                         place
--   line_of e             the line of the refusal e
--   text_of r             the text of the answer r: the four lines, or the line of a refusal
use Rattle.std.specs.Prelude.{ℕ, ℤ, pos, zero, List, [], ◌∷◌, ◌++◌, Some, codes, decimal, Option, Ok, Err, Result}
use Rattle.verdicts.specs.declared.verdict.Verdict.{Verdict}
use Rattle.verdicts.specs.declared.verdict.Verdict.TheVariants.{Sound}
use Rattle.verdicts.specs.Verdicts.{text as verdict_text}
use Rattle.planning.specs.declared.report.Report.{Report}
use Rattle.planning.specs.Refusals.{told}
use Rattle.planning.specs.Reports.{text as distance_text}
use Rattle.report.specs.declared.lines.Refused.{Refused}
use Rattle.report.specs.declared.lines.Refused.TheVariants.{Task, Plan}

abbrev pub line : List ℕ → List ℕ
line text = text ++ (10 ∷ [])

abbrev pub shortest_word : Verdict → Option ℤ → List ℕ
shortest_word Sound (Some (pos zero)) = codes "yes"
shortest_word _ _ = codes "no"

abbrev pub lines_of : Report → List ℕ
lines_of rep =
    line (codes "rounds " ++ decimal rep.rounds)
    ++ (line (codes "distance " ++ distance_text rep.distance)
    ++ (line (codes "verdict " ++ verdict_text rep.verdict)
    ++ line (codes "shortest " ++ shortest_word rep.verdict rep.excess)))

abbrev pub refused_line : List ℕ → ℕ × ℕ → List ℕ
refused_line name t = line (name ++ (codes " refused " ++ (decimal t.0 ++ (codes " " ++ decimal t.1))))

abbrev pub line_of : Refused → List ℕ
line_of (Task e) = refused_line (codes "task") (told e)
line_of (Plan e) = refused_line (codes "plan") (told e)

abbrev pub text_of : Result Report Refused → List ℕ
text_of (Ok rep) = lines_of rep
text_of (Err e) = line_of e
