-- What is printed where there is no page.
--
--   why_text w     the text of why there is no page: the line of the file that is refused; or, where the sheet isn't
--                  sound, the four lines of the report on it, and the line of the refusal to issue it
use Rattle.std.specs.Prelude.{ℕ, List, ◌++◌, codes}
use Rattle.planning.specs.Refusals.{told}
use Rattle.report.specs.declared.no_page.NoPage.{NoPage}
use Rattle.report.specs.declared.no_page.NoPage.TheVariants.{Refused, Names, Unsound}
use Rattle.report.specs.Lines.{lines_of, refused_line, line_of}

abbrev pub why_text : NoPage → List ℕ
why_text (Refused e) = line_of e
why_text (Names e) = refused_line (codes "names") (told e)
why_text (Unsound rep e) = lines_of rep ++ refused_line (codes "sheet") (told e)
