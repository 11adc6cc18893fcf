-- What two files are answered: a task file, and a sheet file for its task.
--
--   Oversized f e          the file f has more than 60,000 bytes, which is refusal 1 at byte 60,000
--   SizeChecked f r        what the check of a file's size answers
--   BytesOf tf T           the task file is the bytes of the task T, however many there are
--   TaskOf tf T            it is, and has at most 60,000 bytes
--   TaskRefused tf e       the task file is refused with e: it is too large, or e is the refusal of its first record
--                          at fault, where 255 rows are supplied
--   TaskLoaded tf r rows   what loading the task file answers, where the 255 rows become rows
--   SheetOf T pf rs        the sheet file is the bytes of at most 500 lists, each of jobs below the task's m and
--                          strictly rising, and the rounds rs are these lists
--   PlanRefused T pf e     the sheet file is refused with e for the task T: it is too large, or e is the refusal of its
--                          first record at fault, where 500 places are supplied and none is in use
--   PlanRead T pf r tb sh  what reading the sheet file is answered: its rounds, and a book that a list of calls under
--                          apart leads to that gives them, with the table tb and the sheet sh; or its refusal
--   PlanAnswered T pf r    what the sheet file is answered for the task T, under apart
--   FilesAnswered tf pf r  what the two files are answered: a task file that is refused, whatever the sheet file is;
--                          else what the sheet file is for its task
use Rattle.std.specs.Prelude.{◌≡◌, ℕ, ◌<◌, ◌≤◌, true, ◌⊎◌, List, map, length, Ok, Err, Result}
use Rattle.std.specs.List.{All}
use Rattle.sets.specs.declared.jobs.JobSet.{JobSet}
use Rattle.sets.specs.Search.{listed}
use Rattle.strips.specs.declared.header.Header.{Header}
use Rattle.strips.specs.declared.row.Row.{Row}
use Rattle.strips.specs.Tasks.{Meaning}
use Rattle.strips.specs.Loading.{loaded}
use Rattle.strips.specs.Rules.{apart}
use Rattle.strips.specs.Rounds.{Round}
use Rattle.reach.specs.Tables.{Table}
use Rattle.planning.specs.declared.book.Book.{Book}
use Rattle.planning.specs.declared.refusal.Refusal.{Refusal}
use Rattle.planning.specs.declared.report.Report.{Report}
use Rattle.planning.specs.Refusals.{told}
use Rattle.planning.specs.Lists.{clean}
use Rattle.files.specs.TaskFiles.{TaskFile}
use Rattle.files.specs.TaskFaults.{FirstTaskFault}
use Rattle.files.specs.SheetFiles.{sheet_bytes, FirstSheetFault}
use Rattle.report.specs.declared.lines.Refused.{Refused}
use Rattle.report.specs.declared.lines.Refused.TheVariants.{Task, Plan}
use Rattle.report.specs.Answers.{Answer, Led}

abbrev pub Oversized : List ℕ → Refusal → Type 0
Oversized f e = (60000 < length f) × (told e ≡ (1, 60000))

abbrev pub SizeChecked : List ℕ → Result Unit Refusal → Type 0
SizeChecked f (Ok _) = length f ≤ 60000
SizeChecked f (Err e) = Oversized f e

abbrev pub BytesOf : List ℕ → Meaning → Type 0
BytesOf tf T = (h : Header) × (rows : List Row) × TaskFile h rows tf × (T ≡ loaded h rows)

abbrev pub TaskOf : List ℕ → Meaning → Type 0
TaskOf tf T = (length tf ≤ 60000) × BytesOf tf T

abbrev pub TaskRefused : List ℕ → Refusal → Type 0
TaskRefused tf e = Oversized tf e ⊎ ((length tf ≤ 60000) × FirstTaskFault tf 255 (told e).0 (told e).1)

abbrev pub TaskLoaded : List ℕ → Result Header Refusal → List Row → Type 0
TaskLoaded tf (Ok h) rows = TaskOf tf (loaded h rows)
TaskLoaded tf (Err e) rows = TaskRefused tf e

abbrev pub SheetOf : Meaning → List ℕ → List Round → Type 0
SheetOf T pf rs =
    (length pf ≤ 60000)
    × ((lists : List (List ℕ)) × (pf ≡ sheet_bytes lists) × (length lists ≤ 500) × All (λ js. clean T.m js ≡ true) lists
    × (rs ≡ map listed lists))

abbrev pub PlanRefused : Meaning → List ℕ → Refusal → Type 0
PlanRefused T pf e = Oversized pf e ⊎ ((length pf ≤ 60000) × FirstSheetFault T.m 500 0 pf (told e).0 (told e).1)

abbrev pub PlanRead : Meaning → List ℕ → Result Book Refusal → Table → List JobSet → Type 0
PlanRead T pf (Ok b) tb sh = (rs : List Round) × SheetOf T pf rs × Led T apart b tb sh rs
PlanRead T pf (Err e) tb sh = PlanRefused T pf e

abbrev pub PlanAnswered : Meaning → List ℕ → Result Report Refusal → Type 0
PlanAnswered T pf (Ok rep) = (rs : List Round) × SheetOf T pf rs × Answer T apart rs rep
PlanAnswered T pf (Err e) = PlanRefused T pf e

abbrev pub FilesAnswered : List ℕ → List ℕ → Result Report Refused → Type 0
FilesAnswered tf pf (Ok rep) = (T : Meaning) × TaskOf tf T × PlanAnswered T pf (Ok rep)
FilesAnswered tf pf (Err (Task e)) = TaskRefused tf e
FilesAnswered tf pf (Err (Plan e)) = (T : Meaning) × TaskOf tf T × PlanAnswered T pf (Err e)
