-- A task file has one first fault, and what loading it says of its answer is true of one answer only.
use Rattle.std.proofs.Common.{◌≡◌, ℕ, ◌+◌, ◌<◌, ◌≤◌, List, ◌++◌, length, drop, Ok, Err, sym, ◌∙◌, ap, ap₂, inl, inr, arith}
use Rattle.strips.specs.Headers.{Limits}
use Rattle.strips.specs.declared.row.Row.{Row}
use Rattle.planning.specs.Refusals.{told}
use Rattle.files.specs.Records.{Mark, TK, AC, ST, GO, size_at, body_at, place}
use Rattle.files.specs.Sets.{ListFault}
use Rattle.files.specs.TaskFaults.{Sized, needs_of, adds_of, deletes_of, BodyFault, n_of, m_of, TaskFault, JobFault, FactsFault, TaskFileFault, FirstTaskFault}
use Rattle.files.specs.TaskFaults.BodyFault.{wrong_length, needs, adds, deletes}
use Rattle.files.specs.TaskFaults.TaskFault.{not_due as task_not_due, wrong_length as task_length, fact_count, few_rows}
use Rattle.files.specs.TaskFaults.JobFault.{not_due as job_not_due, body}
use Rattle.files.specs.TaskFaults.FactsFault.{not_due as list_not_due, list}
use Rattle.files.specs.TaskFaults.TaskFileFault.{task, job, start, goal, bytes_follow}
use Rattle.files.specs.Loading.{OneLoading}
use Rattle.files.proofs.Once.{Once, Tells, tells_once, Else, else_once, Test, test_once, DueTest, ListTest, once_by, first_once, due_once, list_fault_once, clean_once}
use Rattle.files.proofs.TaskLaws.{one_task, not_at_fault}

-- a record of a list of facts
facts_fault_once : (k : Mark) (n : ℕ) (file : List ℕ) (p : ℕ) → Once (FactsFault k n file p)
facts_fault_once k n file p = once_by checks (due_once file p k (list_fault_once 5 n (body_at file p)))
  where
    checks : (c : ℕ) → FactsFault k n file p c → DueTest file p k (ListFault 5 n (body_at file p)) c
    checks c (list_not_due f) = inl f
    checks c (list due f) = inr (due, f)

-- the body of a job
body_fault_once : (n : ℕ) (b : List ℕ) → Once (BodyFault n b)
body_fault_once n b = once_by checks (test_once (clean_once 5 n (needs_of b) (clean_once 5 n (adds_of b) (list_fault_once 5 n (deletes_of b)))))
  where
    checks : (c : ℕ) → BodyFault n b c
        → Test (Sized b) 3 (ListTest 5 n (needs_of b) (ListTest 5 n (adds_of b) (ListFault 5 n (deletes_of b)))) c
    checks c (wrong_length wrong e) = inl (wrong, e)
    checks c (needs s f) = inr (s, inl f)
    checks c (adds s fine f) = inr (s, inr (fine, inl f))
    checks c (deletes s fine fine' f) = inr (s, inr (fine, inr (fine', f)))

-- a job record
job_fault_once : (n : ℕ) (file : List ℕ) (p : ℕ) → Once (JobFault n file p)
job_fault_once n file p = once_by checks (due_once file p AC (body_fault_once n (body_at file p)))
  where
    checks : (c : ℕ) → JobFault n file p c → DueTest file p AC (BodyFault n (body_at file p)) c
    checks c (job_not_due f) = inl f
    checks c (body due f) = inr (due, f)

-- the task record
task_fault_once : (file : List ℕ) (rows : ℕ) → Once (TaskFault file rows)
task_fault_once file rows = once_by checks (due_once file 0 TK (test_once (test_once tells_once)))
  where
    checks : (c : ℕ) → TaskFault file rows c → DueTest file 0 TK (Test (size_at file 0 ≡ 2) 3 (Test (Limits (n_of file)) 4 (Tells (rows < m_of file) 9))) c
    checks c (task_not_due f) = inl f
    checks c (task_length due wrong e) = inr (due, inl (wrong, e))
    checks c (fact_count due size wrong e) = inr (due, inr (size, inl (wrong, e)))
    checks c (few_rows due size l few e) = inr (due, inr (size, inr (l, (few, e))))

-- what is told of records up to j only, or of record j, and what of those behind it
abbrev UpTo : ℕ → ℕ → (ℕ → Type 0) → (ℕ → Type 0) → ℕ → Type 0
UpTo i j F = Else (λ c. (i ≤ j) × F c) (j < i)

abbrev At : ℕ → ℕ → (ℕ → Type 0) → (ℕ → Type 0) → ℕ → Type 0
At i j F = Else (λ c. (i ≡ j) × F c) (j < i)

to_once : (i j : ℕ) {F G : ℕ → Type 0} → Once F → Once G → Once (UpTo i j F G)
to_once i j f = else_once (λ c lt (le, _). omega arith) (λ c d (_, x) (_, y). f c d x y)

at_once : (i j : ℕ) {F G : ℕ → Type 0} → Once F → Once G → Once (At i j F G)
at_once i j f = else_once (λ c lt (is, _). omega arith) (λ c d (_, x) (_, y). f c d x y)

-- record i of a file, or the bytes behind the last
fault_once : (file : List ℕ) (rows i : ℕ) → Once (TaskFileFault file rows i)
fault_once file rows i =
    once_by checks
    (at_once i 0 (task_fault_once file rows)
    (to_once i (m_of file) (job_fault_once (n_of file) file (place file i))
    (at_once i (m_of file + 1) (facts_fault_once ST (n_of file) file (place file i))
    (at_once i (m_of file + 2) (facts_fault_once GO (n_of file) file (place file i)) tells_once))))
  where
    checks : (c : ℕ) → TaskFileFault file rows i c
        → At i 0 (TaskFault file rows) (UpTo i (m_of file) (JobFault (n_of file) file (place file i))
        (At i (m_of file + 1) (FactsFault ST (n_of file) file (place file i))
        (At i (m_of file + 2) (FactsFault GO (n_of file) file (place file i)) (Tells (place file i < length file) 8)))) c
    checks c (task is f) = inl (is, f)
    checks c (job j is lt f) = inr (omega arith, inl (omega arith, f))
    checks c (start is f) = inr (omega arith, inr (omega arith, inl (is, f)))
    checks c (goal is f) = inr (omega arith, inr (omega arith, inr (omega arith, inl (is, f))))
    checks c (bytes_follow is lt e) = inr (omega arith, inr (omega arith, inr (omega arith, inr (omega arith, (lt, e)))))

-- a file has one first fault
pub one_task_fault : (file : List ℕ) (rows c p c' p' : ℕ) → FirstTaskFault file rows c p → FirstTaskFault file rows c' p' → (c ≡ c') × (p ≡ p')
one_task_fault file rows c p c' p' f g =
    let (places, numbers) = first_once (TaskFileFault file rows) (fault_once file rows) f.at g.at c c' f.fault g.fault f.none_before g.none_before in
    (numbers, f.place_is ∙ ap (place file) places ∙ sym g.place_is)

pub one_answer : OneLoading
one_answer file rows rows' rows'' (Ok h) (Ok h') (new, t, _, is) (new', t', _, is') =
    let same = one_task file h h' new new' t t' in (
      (same.n_is, same.m_is, same.start_is, same.goal_is),
      is ∙ ap₂ {C = List Row} (λ (xs : List Row) (m : ℕ). xs ++ drop m rows) same.rows_are same.m_is ∙ sym is',
    )
one_answer file rows rows' rows'' (Ok h) (Err e) (new, t, room, _) (f, _) =
    absurd (not_at_fault h new file t (length rows) (told e).0 (told e).1 room f)
one_answer file rows rows' rows'' (Err e) (Ok h) (f, _) (new, t, room, _) =
    absurd (not_at_fault h new file t (length rows) (told e).0 (told e).1 room f)
one_answer file rows rows' rows'' (Err e) (Err e') (f, is) (f', is') =
    let (numbers, places) = one_task_fault file (length rows) (told e).0 (told e).1 (told e').0 (told e').1 f f' in
    (ap₂ {C = ℕ × ℕ} (λ (c p : ℕ). (c, p)) numbers places, is ∙ sym is')
