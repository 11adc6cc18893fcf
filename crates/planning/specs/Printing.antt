-- Printing the page of an issued book.
--
--   FitsToPrint T b sh                the task has the book's n and m, and the sheet a place for each round
--   FittingToPrint T b sh r         what the check of that answers
--   Written out mem r mem'      what a call answers that writes the bytes out to the front of the memory mem, which becomes
--                               mem': their number, and what stands behind them is kept; or refusal 16 where the memory
--                               is shorter, and it is kept
--   FitAndWritten T b sh out mem r mem'   the same of a call that is refused with 9 first, where task or sheet doesn't fit
--   page_of T N b sh            the page of the book's rounds, under the names N
--   PagePrinted T N i sh mem r mem'       what printing the issued book i answers and writes
use Rattle.std.specs.Prelude.{◌≡◌, ℕ, ◌<◌, ◌≤◌, List, ◌++◌, length, drop, Ok, Err, Result}
use Rattle.sets.specs.declared.jobs.JobSet.{JobSet}
use Rattle.strips.specs.Tasks.{Meaning}
use Rattle.verdicts.specs.Sheets.{rounds_of}
use Rattle.pages.specs.Names.{Names}
use Rattle.pages.specs.Pages.{page}
use Rattle.planning.specs.declared.book.Book.{Book}
use Rattle.planning.specs.declared.issued.Issued.{Issued}
use Rattle.planning.specs.declared.refusal.Refusal.{Refusal}
use Rattle.planning.specs.Refusals.{told, Refused}

pub record FitsToPrint (T : Meaning) (b : Book) (sh : List JobSet) : Type 0 where
  pub n_is : T.n ≡ b.n
  pub m_is : T.m ≡ b.m
  pub places : b.rounds ≤ length sh

abbrev pub FittingToPrint : Meaning → Book → List JobSet → Result Unit Refusal → Type 0
FittingToPrint T b sh (Ok _) = FitsToPrint T b sh
FittingToPrint T b sh (Err e) = (¬ FitsToPrint T b sh) × (told e ≡ (9, 0))

pub data Written (out mem : List ℕ) (r : Result ℕ Refusal) (mem' : List ℕ) : Type 0 where
  written : length out ≤ length mem → r ≡ Ok (length out) → mem' ≡ out ++ drop (length out) mem → Written out mem r mem'
  no_room : length mem < length out → Refused 16 0 r → mem' ≡ mem → Written out mem r mem'

pub data FitAndWritten (T : Meaning) (b : Book) (sh : List JobSet) (out mem : List ℕ) (r : Result ℕ Refusal) (mem' : List ℕ) : Type 0 where
  misfit : (¬ FitsToPrint T b sh) → Refused 9 0 r → mem' ≡ mem → FitAndWritten T b sh out mem r mem'
  fit : FitsToPrint T b sh → Written out mem r mem' → FitAndWritten T b sh out mem r mem'

abbrev pub page_of : Meaning → Names → Book → List JobSet → List ℕ
page_of T N b sh = page T.m N (rounds_of T.m b.rounds sh)

abbrev pub PagePrinted : Meaning → Names → Issued → List JobSet → List ℕ → Result ℕ Refusal → List ℕ → Type 0
PagePrinted T N i sh mem r mem' = FitAndWritten T i.book sh (page_of T N i.book sh) mem r mem'
