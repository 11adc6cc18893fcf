-- What the parts of loading answer: each gives what it read, with the bytes that it stands for, or the fault.
--
--   Counted file rows r          TK: the numbers of facts and of jobs
--   Split b at r                 the three lists of a job's body b
--   RowRead n b at r             the row of a job's body b, in a task of n facts
--   JobRead n file p r           the job record at byte p
--   FactsRead k n file p r       the record of mark k at byte p, a list of facts
--   SoundJobs n file j           none of the first j job records is at fault
--   JobsRead n file rows r       the job records from record 1 on, one for each of the rows
--   EndsFault n file p c at      what is at fault from the start record on, which is due at byte p
--   EndsRead n m file p r        start, goal and the end of the file
--   Parsed file rows read r      a whole task file
use Rattle.std.specs.Prelude.{◌≡◌, ℕ, suc, ◌<◌, ◌≤◌, List, ◌++◌, length, take, Ok, Err, Result, slice_index}
use Rattle.std.specs.List.{AllByRecursion, flat_map}
use Rattle.sets.specs.declared.facts.FactSet.{FactSet}
use Rattle.strips.specs.declared.row.Row.{Row}
use Rattle.strips.specs.declared.header.Header.{Header}
use Rattle.strips.specs.Headers.{Limits}
use Rattle.strips.specs.Tasks.{Below}
use Rattle.planning.specs.declared.refusal.Refusal.{Refusal}
use Rattle.planning.specs.Refusals.{told}
use Rattle.files.specs.declared.job.JobBody.{JobBody}
use Rattle.files.specs.declared.counts.Counts.{Counts}
use Rattle.files.specs.Records.{Mark, TK, ST, GO, record_bytes, size_at, behind, place, Due, RefusedAt, Stands}
use Rattle.files.specs.Sets.{facts_of, Plain}
use Rattle.files.specs.TaskFiles.{job_body, job_bytes, RowLimits, TaskFile}
use Rattle.files.specs.TaskFaults.{
  n_of,
  m_of,
  Sized,
  needs_of,
  adds_of,
  deletes_of,
  BodyFault,
  TaskFault,
  JobFault,
  FactsFault,
  FirstTaskFault,
}

abbrev pub Counted : List ℕ → ℕ → Result Counts Refusal → Type 0
Counted file rows (Ok k) =
    Due file 0 TK × (size_at file 0 ≡ 2) × Limits (n_of file) × (m_of file ≤ rows) × (k.n ≡ n_of file) × (k.m ≡ m_of file)
Counted file rows (Err e) = RefusedAt 0 (TaskFault file rows) e

abbrev pub Split : List ℕ → ℕ → Result JobBody Refusal → Type 0
Split b at (Ok q) =
    Sized b × (q.zone ≡ slice_index b 0) × (q.needs.now ≡ needs_of b) × (q.adds.now ≡ adds_of b) × (q.deletes.now ≡ deletes_of b)
Split b at (Err e) = (¬ Sized b) × (told e ≡ (3, at))

abbrev pub RowRead : ℕ → List ℕ → ℕ → Result Row Refusal → Type 0
RowRead n b at (Ok r) = RowLimits n r × (b ≡ job_body r)
RowRead n b at (Err e) = RefusedAt at (BodyFault n b) e

abbrev pub JobRead : ℕ → List ℕ → ℕ → Result (Row × ℕ) Refusal → Type 0
JobRead n file p (Ok (r, q)) = RowLimits n r × Stands file p (job_bytes r) q
JobRead n file p (Err e) = RefusedAt p (JobFault n file p) e

abbrev pub FactsRead : Mark → ℕ → List ℕ → ℕ → Result (FactSet × ℕ) Refusal → Type 0
FactsRead k n file p (Ok (s, q)) = Below n s × Plain s × Stands file p (record_bytes k (facts_of s)) q
FactsRead k n file p (Err e) = RefusedAt p (FactsFault k n file p) e

abbrev pub SoundJobs : ℕ → List ℕ → ℕ → Type 0
SoundJobs n file j = (i : ℕ) → i < j → (c : ℕ) → ¬ JobFault n file (place file (suc i)) c

abbrev pub JobsRead : ℕ → List ℕ → List Row → Result ℕ Refusal → Type 0
JobsRead n file rows (Ok q) =
    AllByRecursion (RowLimits n) rows × Stands file (place file 1) (flat_map job_bytes rows) q
JobsRead n file rows (Err e) =
    (j : ℕ) × (j < length rows) × JobRead n file (place file (suc j)) (Err e) × SoundJobs n file j

pub data EndsFault (n : ℕ) (file : List ℕ) (p c at : ℕ) : Type 0 where
  start : FactsFault ST n file p c → at ≡ p → EndsFault n file p c at
  goal : ((d : ℕ) → ¬ FactsFault ST n file p d) → FactsFault GO n file (behind file p) c → at ≡ behind file p
      → EndsFault n file p c at
  bytes_follow : ((d : ℕ) → ¬ FactsFault ST n file p d) → ((d : ℕ) → ¬ FactsFault GO n file (behind file p) d)
      → at ≡ behind file (behind file p) → at < length file → c ≡ 8 → EndsFault n file p c at

abbrev pub EndsRead : ℕ → ℕ → List ℕ → ℕ → Result Header Refusal → Type 0
EndsRead n m file p (Ok h) =
    (h.n ≡ n) × (h.m ≡ m) × Plain h.start × Plain h.goal
    × Stands file p (record_bytes ST (facts_of h.start) ++ record_bytes GO (facts_of h.goal)) (length file)
EndsRead n m file p (Err e) = EndsFault n file p (told e).0 (told e).1

abbrev pub Parsed : List ℕ → ℕ → List Row → Result Header Refusal → Type 0
Parsed file rows read (Ok h) = TaskFile h (take h.m read) file × (h.m ≤ rows)
Parsed file rows read (Err e) = FirstTaskFault file rows (told e).0 (told e).1
