-- What is printed: the text of two files, and the page of three.
--
--   Printed tf pf out          out is the text of what the task file and the sheet file are answered
--   OneText                    two files have at most one text
--   page_or_why r              what is printed of an answer: the page, or why there is none
--   PrintedOfThree tf pf nf out   out is what is printed of what the task file, the sheet file and the names file are
--                              answered
--   OnePage                    three files have at most one such text
use Rattle.std.specs.Prelude.{◌≡◌, ℕ, List, Ok, Err, Result}
use Rattle.planning.specs.declared.report.Report.{Report}
use Rattle.report.specs.declared.lines.Refused.{Refused}
use Rattle.report.specs.declared.no_page.NoPage.{NoPage}
use Rattle.report.specs.Lines.{text_of}
use Rattle.report.specs.Files.{FilesAnswered}
use Rattle.report.specs.PageLines.{why_text}
use Rattle.report.specs.Pages.{FilesPrinted}

abbrev pub Printed : List ℕ → List ℕ → List ℕ → Type 0
Printed tf pf out = (r : Result Report Refused) × FilesAnswered tf pf r × (out ≡ text_of r)

abbrev pub OneText : Type 0
OneText = (tf pf out out' : List ℕ) → Printed tf pf out → Printed tf pf out' → out ≡ out'

abbrev pub page_or_why : Result (List ℕ) NoPage → List ℕ
page_or_why (Ok page) = page
page_or_why (Err why) = why_text why

abbrev pub PrintedOfThree : List ℕ → List ℕ → List ℕ → List ℕ → Type 0
PrintedOfThree tf pf nf out = (r : Result (List ℕ) NoPage) × FilesPrinted tf pf nf r × (out ≡ page_or_why r)

abbrev pub OnePage : Type 0
OnePage = (tf pf nf out out' : List ℕ) → PrintedOfThree tf pf nf out → PrintedOfThree tf pf nf out' → out ≡ out'
