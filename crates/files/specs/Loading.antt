-- What loading a task file answers and writes, on all inputs.
--
--   Loaded file rows r rows'    loading: the file's rows are written over the first rows, or the first fault is
--                               told and nothing is written
--   ExactLoading file rows r    a file is refused only if it is the bytes of no header and rows within the limits
--                               for which there is room
--   OneTask                     a file is the bytes of at most one header and one list of rows
--   SameLoading r s             two answers of loading are one: both accept with headers of the same values, or
--                               both refuse with the same number and place
--   OneLoading                  loading a file with rows has one answer, and leaves the rows in one way
use Rattle.std.specs.Prelude.{◌≡◌, ℕ, ◌≤◌, List, ◌++◌, length, drop, Ok, Err, Result, ⊤}
use Rattle.strips.specs.declared.row.Row.{Row}
use Rattle.strips.specs.declared.header.Header.{Header}
use Rattle.planning.specs.declared.refusal.Refusal.{Refusal}
use Rattle.planning.specs.Refusals.{told}
use Rattle.files.specs.TaskFiles.{TaskFile, SameTask}
use Rattle.files.specs.TaskFaults.{FirstTaskFault}

abbrev pub Loaded : List ℕ → List Row → Result Header Refusal → List Row → Type 0
Loaded file rows (Ok h) rows' =
    (new : List Row) × TaskFile h new file × (h.m ≤ length rows) × (rows' ≡ new ++ drop h.m rows)
Loaded file rows (Err e) rows' = FirstTaskFault file (length rows) (told e).0 (told e).1 × (rows' ≡ rows)

abbrev pub ExactLoading : List ℕ → List Row → Result Header Refusal → Type 0
ExactLoading file rows (Ok h) = ⊤
ExactLoading file rows (Err e) = (h : Header) (new : List Row) → TaskFile h new file → ¬ (h.m ≤ length rows)

abbrev pub OneTask : Type 0
OneTask = (file : List ℕ) (h h' : Header) (rows rows' : List Row) → TaskFile h rows file → TaskFile h' rows' file → SameTask h rows h' rows'

abbrev pub SameLoading : Result Header Refusal → Result Header Refusal → Type 0
SameLoading (Ok h) (Ok h') = (h.n ≡ h'.n) × (h.m ≡ h'.m) × (h.start ≡ h'.start) × (h.goal ≡ h'.goal)
SameLoading (Err e) (Err e') = told e ≡ told e'
SameLoading _ _ = ⊥

abbrev pub OneLoading : Type 0
OneLoading = (file : List ℕ) (rows rows' rows'' : List Row) (r s : Result Header Refusal) → Loaded file rows r rows' → Loaded file rows s rows''
    → SameLoading r s × (rows' ≡ rows'')
