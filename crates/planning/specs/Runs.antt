-- Lists of calls.
--
--   World              the book, with its table and its sheet
--   Call               a call of a book after its opening; `issue` is issuing and, where it isn't refused, reopening
--   Handed r b         the book b is what the answer r of issuing hands back, or gives when it is reopened
--   Step T R w c w'    the call c, on the task T under the rule R, leads from w to w'
--   Run T R w₀ cs w    the list of calls cs leads from w₀ to w. The latest call is the first of the list;
--                      each may have been picked after the answers to those before it
--   Story T R          an accepted opening, and a list of calls after it
--   growings cs        how many of the calls are growings, refused ones too
--   without_last rs    the rounds rs but the last one, if there is one
--   sheet_of m k cs    the rounds that the list of calls gives, for m jobs and k sheet places: an adding
--                      of a list that is in order appends its set of jobs if there is room, a dropping takes
--                      off the last round if there is one, other calls keep it
use Rattle.std.specs.Prelude.{◌≡◌, ℕ, suc, if◌then◌else◌, ◌&&◌, List, [], ◌∷◌, ◌++◌, length, Ok, Err, Result}
use Rattle.sets.specs.declared.jobs.JobSet.{JobSet}
use Rattle.sets.specs.Search.{listed}
use Rattle.strips.specs.Tasks.{Meaning}
use Rattle.strips.specs.Rules.{Says}
use Rattle.strips.specs.Rounds.{Round}
use Rattle.reach.specs.Tables.{Table}
use Rattle.planning.specs.declared.book.Book.{Book}
use Rattle.planning.specs.declared.issued.Issued.{Issued}
use Rattle.planning.specs.declared.issued.NotIssued.{NotIssued}
use Rattle.planning.specs.declared.refusal.Refusal.{Refusal}
use Rattle.planning.specs.declared.report.Report.{Report}
use Rattle.planning.specs.Calls.{Opened, Grew, Dropped, Judging}
use Rattle.planning.specs.Lists.{clean}
use Rattle.planning.specs.Adding.{free, Added}
use Rattle.planning.specs.Issuing.{Issuing, Reopened}

pub record World : Type 0 where
  pub book : Book
  pub table : Table
  pub sheet : List JobSet

pub data Call : Type 0 where
  grow : Call
  add : List ℕ → Call
  drop : Call
  judge : Call
  issue : Call

abbrev pub Handed : Result Issued NotIssued → Book → Type 0
Handed (Ok i) b = Reopened i b
Handed (Err e) b = b ≡ e.book

abbrev pub Step : Meaning → Says → World → Call → World → Type 0
Step T R w grow w' =
    (r : Result Unit Refusal) × Grew T R w.book w.table r w'.book w'.table × (w'.sheet ≡ w.sheet)
Step T R w (add js) w' =
    (r : Result Unit Refusal) × Added w.book w.sheet js r w'.book w'.sheet × (w'.table ≡ w.table)
Step T R w drop w' =
    (r : Result Unit Refusal) × Dropped w.book r w'.book × (w'.table ≡ w.table) × (w'.sheet ≡ w.sheet)
Step T R w judge w' =
    (r : Result Report Refusal) × Judging T R w.book w.table w.sheet r × (w' ≡ w)
Step T R w issue w' =
    (r : Result Issued NotIssued) × Issuing T R w.book w.table w.sheet r × Handed r w'.book × (w'.table ≡ w.table) × (w'.sheet ≡ w.sheet)

pub data Run (T : Meaning) (R : Says) (w₀ : World) : List Call → World → Type 0 where
  opened : Run T R w₀ [] w₀
  called : {cs : List Call} {w : World} (c : Call) (w' : World) → Run T R w₀ cs w → Step T R w c w' → Run T R w₀ (c ∷ cs) w'

pub record Story (T : Meaning) (R : Says) : Type 0 where
  pub table : Table
  pub first : World
  pub opening : Opened T table (Ok first.book) first.table
  pub calls : List Call
  pub last : World
  pub run : Run T R first calls last

abbrev pub growings : List Call → ℕ
growings [] = 0
growings (grow ∷ cs) = suc (growings cs)
growings (add js ∷ cs) = growings cs
growings (drop ∷ cs) = growings cs
growings (judge ∷ cs) = growings cs
growings (issue ∷ cs) = growings cs

abbrev pub without_last : List Round → List Round
without_last [] = []
without_last (r ∷ []) = []
without_last (r ∷ (s ∷ rs)) = r ∷ without_last (s ∷ rs)

abbrev pub sheet_of : ℕ → ℕ → List Call → List Round
sheet_of m k [] = []
sheet_of m k (grow ∷ cs) = sheet_of m k cs
sheet_of m k (add js ∷ cs) =
    let rs : List Round = sheet_of m k cs in if clean m js && free k (length rs) then rs ++ (listed js ∷ []) else rs
sheet_of m k (drop ∷ cs) = without_last (sheet_of m k cs)
sheet_of m k (judge ∷ cs) = sheet_of m k cs
sheet_of m k (issue ∷ cs) = sheet_of m k cs
