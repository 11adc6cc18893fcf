-- A task file that was loaded is the bytes of the task over the rows.
use Rattle.std.proofs.Common.{◌≡◌, ℕ, ◌≤◌, min, List, ◌++◌, length, take, Ok, Err, Result, ap₂, inr, arith, length-append}
use Rattle.std.specs.List.{slice_get}
use Rattle.std.specs.Option.{option_map}
use Rattle.std.proofs.lemmas.List.{take-append-le}
use Rattle.strips.specs.declared.header.Header.{Header}
use Rattle.strips.specs.declared.row.Row.{Row}
use Rattle.strips.specs.Tasks.{Meaning}
use Rattle.strips.specs.Loading.{job_of, loaded}
use Rattle.planning.specs.declared.refusal.Refusal.{Refusal}
use Rattle.files.specs.Loading.{Loaded}
use Rattle.report.specs.Files.{BytesOf, TaskLoaded}

-- the task of header h whose jobs are read from these rows
abbrev over : Header → ℕ → List Row → Meaning
over h m rows =
    record { n = h.n; m = m; start = h.start; goal = h.goal; job = λ j. option_map (job_of h.n) (slice_get rows j) }

-- rows behind the task's are not jobs
same_task : (h : Header) (new rest : List Row) → length new ≡ h.m → loaded h (new ++ rest) ≡ loaded h new
same_task h new rest len =
    let few : h.m ≤ length new = omega arith in
    let m : min h.m (length (new ++ rest)) ≡ min h.m (length new) = omega (arith, length-append new rest) in
    let rows : take h.m (new ++ rest) ≡ take h.m new = take-append-le h.m new rest few in
    ap₂ (over h) m rows

pub bytes_loaded : (tf : List ℕ) (rows : List Row) (h : Header) (rows' : List Row) → Loaded tf rows (Ok h) rows' → BytesOf tf (loaded h rows')
bytes_loaded tf rows h rows' (new, file, _, is) = (h, new, file, rw is (same_task h new _ file.jobs))

pub task_loaded : (tf : List ℕ) (rows : List Row) (r : Result Header Refusal) (rows' : List Row) → length tf ≤ 60000 → length rows ≡ 255
    → Loaded tf rows r rows' → TaskLoaded tf r rows'
task_loaded tf rows (Ok h) rows' small len loading = (small, bytes_loaded tf rows h rows' loading)
task_loaded tf rows (Err e) rows' small len (first, _) = inr (small, rw len at first)
