-- What three files are answered: a task file, a sheet file for its task, and a names file for its jobs.
--
--   NamesOf T nf N             the names file has at most 60,000 bytes and is those of entries that may be read for the
--                              task T, and N are the names that they give
--   NamesRefused T nf e        the names file is refused with e for the task T: it is too large, or e is the refusal of its
--                              first record at fault
--   NamesLoaded T nf r places  what reading the names file is answered, where the 255 places become `places`: they give the
--                              task its names; or its refusal
--   RoundsPrinted T N rs r     what printing the rounds rs is answered: they are a plan, and their page; or they are none,
--                              the report on them, and refusal 14 at place 0
--   SheetPrinted T N b tb sh r   so it is of the rounds of every list of calls under apart that leads to the book b, the
--                              table tb and the sheet sh, if they are at most 500
--   front_of mem r             an answer of printing, with the bytes that it has written to the front of the memory mem
--   FilesPrinted tf pf nf r    what the three files are answered: a task file or else a sheet file that is refused,
--                              whatever the files behind it are; or else a names file that is; or else what printing is
use Rattle.std.specs.Prelude.{◌≡◌, ℕ, ◌≤◌, ◌⊎◌, List, length, take, Ok, Err, Result}
use Rattle.sets.specs.declared.jobs.JobSet.{JobSet}
use Rattle.strips.specs.Tasks.{Meaning}
use Rattle.strips.specs.Rules.{apart}
use Rattle.strips.specs.Rounds.{Round, Plan}
use Rattle.reach.specs.Tables.{Table}
use Rattle.pages.specs.declared.name.NamePlace.{NamePlace}
use Rattle.pages.specs.Names.{Names, named_by}
use Rattle.pages.specs.Pages.{page}
use Rattle.planning.specs.declared.book.Book.{Book}
use Rattle.planning.specs.declared.refusal.Refusal.{Refusal}
use Rattle.planning.specs.Refusals.{told}
use Rattle.names.specs.NameFiles.{Entry, names_bytes, NamesFit, given}
use Rattle.names.specs.NameFaults.{FirstNameFault}
use Rattle.report.specs.declared.no_page.NoPage.{NoPage}
use Rattle.report.specs.declared.no_page.NoPage.TheVariants.{Refused, Names as names_refused, Unsound}
use Rattle.report.specs.Answers.{Answer, Led}
use Rattle.report.specs.Files.{Oversized, TaskOf, SheetOf, FilesAnswered}

abbrev pub NamesOf : Meaning → List ℕ → Names → Type 0
NamesOf T nf N = (length nf ≤ 60000) × ((es : List Entry) × (nf ≡ names_bytes es) × NamesFit T.m es × (N ≡ given es))

abbrev pub NamesRefused : Meaning → List ℕ → Refusal → Type 0
NamesRefused T nf e = Oversized nf e ⊎ ((length nf ≤ 60000) × FirstNameFault T.m nf (told e).0 (told e).1)

abbrev pub NamesLoaded : Meaning → List ℕ → Result Unit Refusal → List NamePlace → Type 0
NamesLoaded T nf (Ok _) places = NamesOf T nf (named_by T.m places)
NamesLoaded T nf (Err e) places = NamesRefused T nf e

abbrev pub RoundsPrinted : Meaning → Names → List Round → Result (List ℕ) NoPage → Type 0
RoundsPrinted T N rs (Ok out) = Plan T apart rs × (out ≡ page T.m N rs)
RoundsPrinted T N rs (Err (Unsound rep e)) = (¬ Plan T apart rs) × Answer T apart rs rep × (told e ≡ (14, 0))
RoundsPrinted T N rs (Err _) = ⊥

abbrev pub SheetPrinted : Meaning → Names → Book → Table → List JobSet → Result (List ℕ) NoPage → Type 0
SheetPrinted T N b tb sh r = (rs : List Round) → Led T apart b tb sh rs → length rs ≤ 500 → RoundsPrinted T N rs r

abbrev pub front_of : List ℕ → Result ℕ NoPage → Result (List ℕ) NoPage
front_of mem (Ok k) = Ok (take k mem)
front_of mem (Err why) = Err why

abbrev pub FilesPrinted : List ℕ → List ℕ → List ℕ → Result (List ℕ) NoPage → Type 0
FilesPrinted tf pf nf (Err (Refused e)) = FilesAnswered tf pf (Err e)
FilesPrinted tf pf nf (Err (names_refused e)) =
    (T : Meaning) × TaskOf tf T × ((rs : List Round) × SheetOf T pf rs) × NamesRefused T nf e
FilesPrinted tf pf nf (Err (Unsound rep e)) =
    (T : Meaning) × TaskOf tf T
    × ((rs : List Round) × SheetOf T pf rs × ((N : Names) × NamesOf T nf N × RoundsPrinted T N rs (Err (Unsound rep e))))
FilesPrinted tf pf nf (Ok out) =
    (T : Meaning) × TaskOf tf T × ((rs : List Round) × SheetOf T pf rs × ((N : Names) × NamesOf T nf N × RoundsPrinted T N rs (Ok out)))
