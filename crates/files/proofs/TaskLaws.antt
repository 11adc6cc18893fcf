-- A whole task file: the first record that is at fault, or the one task whose bytes it is.
use Rattle.std.proofs.Common.{◌≡◌, ℕ, suc, ◌+◌, ◌<◌, ◌≤◌, List, [], ◌∷◌, ◌++◌, length, take, drop, Result, Ok, Err, sym, refl, ap, ap₂, ◌∙◌, arith}
use Rattle.std.specs.List.{AllByRecursion, flat_map}
use Rattle.std.proofs.lemmas.List.{drop_more, take_at}
use Rattle.strips.specs.declared.row.Row.{Row}
use Rattle.strips.specs.declared.header.Header.{Header}
use Rattle.strips.specs.Headers.{Limits}
use Rattle.planning.specs.declared.refusal.Refusal.{Refusal}
use Rattle.planning.specs.Refusals.{told}
use Rattle.files.specs.declared.counts.Counts.{Counts}
use Rattle.files.specs.Records.{TK, AC, ST, GO, record_bytes, size_at, body_at, behind, place, Due, Stands}
use Rattle.files.specs.Sets.{facts_of}
use Rattle.files.specs.TaskFiles.{job_body, job_bytes, task_bytes, RowLimits, TaskFile}
use Rattle.files.specs.TaskFaults.{n_of, m_of, TaskFault, JobFault, FactsFault, TaskFileFault, FirstTaskFault}
use Rattle.files.specs.TaskFaults.TaskFault.{not_due, wrong_length, fact_count, few_rows}
use Rattle.files.specs.TaskFaults.TaskFileFault.{task, job, start, goal, bytes_follow}
use Rattle.files.specs.Reading.{Counted, JobsRead, EndsFault, EndsRead, Parsed}
use Rattle.files.specs.Reading.EndsFault.{start as start_fault, goal as goal_fault, bytes_follow as more_fault}
use Rattle.files.specs.Loading.{OneTask}
use Rattle.files.proofs.FactLists.{same_facts}
use Rattle.files.proofs.BodyLaws.{same_row}
use Rattle.files.proofs.RecordLaws.{due_sound, record_stands, stands_both, stands_parts, stands_record, stands_rest, rest_stands, byte_is, stands_due, stands_behind, stands_body}
use Rattle.files.proofs.TaskReading.{facts_sound, jobs_sound}

-- a task record with counts that are allowed is not at fault
task_sound : (file : List ℕ) (rows : ℕ) → Due file 0 TK → size_at file 0 ≡ 2 → Limits (n_of file) → m_of file ≤ rows → (d : ℕ) → TaskFault file rows d → ⊥
task_sound file rows due size limits room d (not_due off) = due_sound file 0 TK d due off
task_sound file rows due size limits room d (wrong_length _ other _) = other size
task_sound file rows due size limits room d (fact_count _ _ off _) = off limits
task_sound file rows due size limits room d (few_rows _ _ _ few _) = omega arith

-- nothing is at fault before record e, where each kind of record before it is sound
none_before : (file : List ℕ) (rows e : ℕ) → ((d : ℕ) → TaskFault file rows d → ⊥)
    → ((j : ℕ) → suc j < e → j < m_of file → (d : ℕ) → JobFault (n_of file) file (place file (suc j)) d → ⊥)
    → (suc (m_of file) < e → (d : ℕ) → FactsFault ST (n_of file) file (place file (suc (m_of file))) d → ⊥)
    → (suc (suc (m_of file)) < e → (d : ℕ) → FactsFault GO (n_of file) file (place file (suc (suc (m_of file)))) d → ⊥)
    → (suc (suc (suc (m_of file))) < e → length file ≤ place file (suc (suc (suc (m_of file))))) → (i : ℕ) → i < e → (d : ℕ) → TaskFileFault file rows i d → ⊥
none_before file rows e counts jobs starts goals ends i lt d (task _ fault) = counts d fault
none_before file rows e counts jobs starts goals ends i lt d (job l is low fault) = jobs l (omega arith) low d (rw is at fault)
none_before file rows e counts jobs starts goals ends i lt d (start is fault) =
    let same : i ≡ suc (m_of file) = omega arith in starts (omega arith) d (rw same at fault)
none_before file rows e counts jobs starts goals ends i lt d (goal is fault) =
    let same : i ≡ suc (suc (m_of file)) = omega arith in goals (omega arith) d (rw same at fault)
none_before file rows e counts jobs starts goals ends i lt d (bytes_follow is more _) =
    let same : i ≡ suc (suc (suc (m_of file))) = omega arith in let end = ends (omega arith) in let here = ap (place file) same in omega arith

-- the numbers of the task were read
module _ (file : List ℕ) (rows : ℕ) (k : Counts) (counted : Counted file rows (Ok k)) where
  counts_sound : (d : ℕ) → TaskFault file rows d → ⊥
  counts_sound = task_sound file rows counted.0 counted.1 counted.2 counted.3

  -- a job record at fault is the first
  pub job_is_first : (xs : List Row) (e : Refusal) → length xs ≡ k.m → JobsRead k.n file xs (Err e) → FirstTaskFault file rows (told e).0 (told e).1
  job_is_first xs e size (j, low, (fault, at), sound) =
      let m_is = counted.5 in record {
        at = suc j;
        fault = job j refl (omega arith) (rw counted.4 at fault);
        place_is = at;
        none_before =
            none_before file rows (suc j) counts_sound (λ l lt _ d other. sound l (omega arith) d (rw (← counted.4) at other))
            (λ h. absurd (omega arith)) (λ h. absurd (omega arith)) (λ h. absurd (omega arith));
      }

  -- and so were its jobs
  module _ (xs : List Row) (p : ℕ) (size : length xs ≡ k.m) (read : JobsRead k.n file xs (Ok p)) where
    all : length xs ≡ m_of file
    all = size ∙ counted.5

    here : p ≡ place file (suc (m_of file))
    here = (jobs_sound k.n file xs p read.0 read.1).0 ∙ ap (λ (m : ℕ). place file (suc m)) all

    no_job : (e j : ℕ) → suc j < e → j < m_of file → (d : ℕ) → JobFault (n_of file) file (place file (suc j)) d → ⊥
    no_job e j _ lt d fault = (jobs_sound k.n file xs p read.0 read.1).1 j (omega (arith, all)) d (rw (← counted.4) at fault)

    -- a fault from the start on is the first
    found_first : (i c at : ℕ) → i ≤ suc (suc (suc (m_of file))) → TaskFileFault file rows i c → at ≡ place file i
        → (suc (m_of file) < i → (d : ℕ) → FactsFault ST (n_of file) file (place file (suc (m_of file))) d → ⊥)
        → (suc (suc (m_of file)) < i → (d : ℕ) → FactsFault GO (n_of file) file (place file (suc (suc (m_of file)))) d → ⊥) → FirstTaskFault file rows c at
    found_first i c at le fault is starts goals = record {
      at = i;
      fault = fault;
      place_is = is;
      none_before = none_before file rows i counts_sound (no_job i) starts goals (λ h. absurd (omega arith));
    }

    ends_are_first : (c at : ℕ) → EndsFault (n_of file) file (place file (suc (m_of file))) c at → FirstTaskFault file rows c at
    ends_are_first c at (start_fault fault is) =
        found_first (suc (m_of file)) c at (omega arith) (start (omega arith) fault) is (λ h. absurd (omega arith)) (λ h. absurd (omega arith))
    ends_are_first c at (goal_fault started fault is) =
        found_first (suc (suc (m_of file))) c at (omega arith) (goal (omega arith) fault) is (λ _. started) (λ h. absurd (omega arith))
    ends_are_first c at (more_fault started aimed is more c_is) =
        found_first (suc (suc (suc (m_of file)))) c at (omega arith) (bytes_follow (omega arith) (rw is at more) c_is) is (λ _. started) (λ _. aimed)

    -- the body of the task record
    two_bytes : body_at file 0 ≡ n_of file ∷ (m_of file ∷ [])
    two_bytes =
        let whole = counted.0.0 in let sized = counted.1 in
        ap (λ (x : ℕ). take x (drop 3 file)) sized
        ∙ ap (take 2) (drop_more file 3 0 (omega arith) ∙ ap (λ (ys : List ℕ). n_of file ∷ ys) (drop_more file 4 0 (omega arith)))

    -- a file that was read to its end is the bytes of the task
    task_file : (h : Header) → EndsRead k.n k.m file p (Ok h) → TaskFile h xs file × (h.m ≤ rows)
    task_file h (n_is, m_is, start_plain, goal_plain, ends) =
        let few = counted.3 in let m_of_is = counted.5 in
        let limits = read.0 in
        let body_is : body_at file 0 ≡ h.n ∷ (length xs ∷ []) =
        two_bytes ∙ ap₂ {C = List ℕ} (λ (n m : ℕ). n ∷ (m ∷ [])) (sym (n_is ∙ counted.4)) (sym all) in
        let front = record_stands file 0 TK counted.0 in
        let rest = stands_both file (place file 1) p (length file) (flat_map job_bytes xs) _ read.1 ends in (
          record {
            jobs = size ∙ sym m_is;
            limits = rw (← n_is) at limits;
            plain = (start_plain, goal_plain);
            bytes = rest_stands file 0 (task_bytes h.n xs h.start h.goal) (stands_both file 0 (place file 1) (length file) _ _ (rw body_is at front) rest);
          },
          omega arith,
        )

    -- the answer for the whole file
    pub whole_parsed : (ys : List Row) (r : Result Header Refusal) → EndsRead k.n k.m file p r → Parsed file rows (xs ++ ys) r
    whole_parsed ys (Ok h) ends =
        let (task_is, enough) = task_file h ends in
        let front : take h.m (xs ++ ys) ≡ xs = take_at xs ys h.m (size ∙ sym ends.1) in (rw front task_is, enough)
    whole_parsed ys (Err e) fault = ends_are_first (told e).0 (told e).1 (rw (counted.4, here) at fault)

-- the records of a task stand in its file
module _ (h : Header) (rows : List Row) (file : List ℕ) (t : TaskFile h rows file) where
  abbrev counts_body : List ℕ
  counts_body = h.n ∷ (length rows ∷ [])

  abbrev jobs_end : ℕ
  jobs_end = place file 1 + length (flat_map job_bytes rows)

  counts_parts : Stands file 0 (record_bytes TK counts_body) (place file 1)
      × Stands file (place file 1) (flat_map job_bytes rows ++ (record_bytes ST (facts_of h.start) ++ record_bytes GO (facts_of h.goal))) (length file)
  counts_parts = stands_record file 0 (length file) TK counts_body _ (stands_rest file 0 (task_bytes h.n rows h.start h.goal) (omega arith) t.bytes)

  jobs_parts : Stands file (place file 1) (flat_map job_bytes rows) jobs_end
      × Stands file jobs_end (record_bytes ST (facts_of h.start) ++ record_bytes GO (facts_of h.goal)) (length file)
  jobs_parts = stands_parts file (place file 1) (length file) (flat_map job_bytes rows) _ counts_parts.1

  ends_parts : Stands file jobs_end (record_bytes ST (facts_of h.start)) (behind file jobs_end)
      × Stands file (behind file jobs_end) (record_bytes GO (facts_of h.goal)) (length file)
  ends_parts = stands_record file jobs_end (length file) ST (facts_of h.start) _ jobs_parts.1

  -- and tell its counts
  n_is : n_of file ≡ h.n
  n_is = byte_is file 0 TK counts_body (place file 1) counts_parts.0 3

  m_is : m_of file ≡ length rows
  m_is = byte_is file 0 TK counts_body (place file 1) counts_parts.0 4

  -- none of them is at fault where there are rows enough
  pub not_at_fault : (k c p : ℕ) → h.m ≤ k → FirstTaskFault file k c p → ⊥
  not_at_fault k c p room first =
      let (end, sound) = jobs_sound h.n file rows jobs_end t.limits jobs_parts.0 in
      let here : jobs_end ≡ place file (suc (m_of file)) = end ∙ ap (λ (m : ℕ). place file (suc m)) (sym m_is) in
      let goal_ends = stands_behind file (behind file jobs_end) GO (facts_of h.goal) (length file) ends_parts.1 in
      none_before file k (suc first.at)
      (task_sound file k (stands_due file 0 TK counts_body (place file 1) counts_parts.0) (byte_is file 0 TK counts_body (place file 1) counts_parts.0 2)
      (rw n_is (h.limits.0, h.limits.1)) (omega (arith, m_is, t.jobs)))
      (λ j _ lt d fault. sound j (omega (arith, m_is)) d (rw n_is at fault))
      (λ _ d fault. facts_sound ST h.n file jobs_end h.start _ d h.starts ends_parts.0 (rw (n_is, ← here) at fault))
      (λ _ d fault. facts_sound GO h.n file (behind file jobs_end) h.goal _ d h.ends ends_parts.1 (rw (n_is, ← here) at fault))
      (λ _. let e = ap (λ (q : ℕ). behind file (behind file q)) here in omega arith) first.at (omega arith) c first.fault

-- the bytes of job records determine the rows, where there are as many
same_rows : (n m : ℕ) (file : List ℕ) (p q q' : ℕ) (rows rows' : List Row) → length rows ≡ length rows' → AllByRecursion (RowLimits n) rows
    → AllByRecursion (RowLimits m) rows' → Stands file p (flat_map job_bytes rows) q → Stands file p (flat_map job_bytes rows') q' → (rows ≡ rows') × (q ≡ q')
same_rows n m file p q q' [] [] same _ _ s s' = (refl, s.end ∙ sym s'.end)
same_rows n m file p q q' [] (x ∷ xs) same _ _ s s' = absurd (omega arith)
same_rows n m file p q q' (r ∷ rs) [] same _ _ s s' = absurd (omega arith)
same_rows n m file p q q' (r ∷ rs) (x ∷ xs) same (rl, rls) (xl, xls) s s' =
    let (first, rest) = stands_record file p q AC (job_body r) (flat_map job_bytes rs) s in
    let (first', rest') = stands_record file p q' AC (job_body x) (flat_map job_bytes xs) s' in
    let row : r ≡ x = same_row n m r x rl xl (sym (stands_body file p AC (job_body r) _ first) ∙ stands_body file p AC (job_body x) _ first') in
    let (more, ends) = same_rows n m file (behind file p) q q' rs xs (omega arith) rls xls rest rest' in
    (ap₂ {C = List Row} (λ (y : Row) (ys : List Row). y ∷ ys) row more, ends)

-- the bytes of a task determine its header and its rows
pub one_task : OneTask
one_task file h h' rows rows' t t' =
    let facts : h.n ≡ h'.n = sym (n_is h rows file t) ∙ n_is h' rows' file t' in
    let jobs : length rows ≡ length rows' = sym (m_is h rows file t) ∙ m_is h' rows' file t' in
    let (same, ends) =
    same_rows h.n h'.n file (place file 1) _ _ rows rows' jobs t.limits t'.limits (jobs_parts h rows file t).0 (jobs_parts h' rows' file t').0 in
    let (st, go) = ends_parts h rows file t in
    let (st', go') = ends_parts h' rows' file t' in record {
      n_is = facts;
      m_is = sym t.jobs ∙ jobs ∙ t'.jobs;
      start_is = same_facts h.start h'.start t.plain.0 t'.plain.0
          (sym (stands_body file _ ST (facts_of h.start) _ st) ∙ ap (body_at file) ends ∙ stands_body file _ ST (facts_of h'.start) _ st');
      goal_is = same_facts h.goal h'.goal t.plain.1 t'.plain.1
          (sym (stands_body file _ GO (facts_of h.goal) _ go) ∙ ap (λ (p : ℕ). body_at file (behind file p)) ends ∙ stands_body file _ GO (facts_of h'.goal) _ go');
      rows_are = same;
    }
