-- The records of a task file as they are read: jobs, lists of facts, and what stands behind the jobs.
use Rattle.std.proofs.Common.{◌≡◌, ℕ, suc, ◌+◌, ◌<◌, ◌≤◌, List, [], ◌∷◌, length, take, Ok, Err, refl, sym, ap, ◌∙◌, inl, inr, arith}
use Rattle.std.specs.List.{AllByRecursion, flat_map}
use Rattle.std.specs.Borrow.{Bor}
use Rattle.std.proofs.lemmas.Bool.{cases_eq}
use Rattle.std.proofs.lemmas.List.{take_all, length-take-le}
use Rattle.sets.specs.declared.facts.FactSet.{FactSet}
use Rattle.strips.specs.declared.row.Row.{Row}
use Rattle.strips.specs.Tasks.{Below}
use Rattle.planning.specs.declared.refusal.Refusal.{Refusal}
use Rattle.planning.specs.Refusals.{told as numbers}
use Rattle.files.specs.declared.record.Record.TheVariants.{Job}
use Rattle.files.specs.declared.record.Placed.{Placed}
use Rattle.files.specs.Records.{Mark, AC, ST, GO, record_bytes, behind, place, Found, Stands, told}
use Rattle.files.specs.Sets.{facts_of, ListRead}
use Rattle.files.specs.TaskFiles.{job_body, job_bytes, RowLimits}
use Rattle.files.specs.TaskFaults.{JobFault, FactsFault}
use Rattle.files.specs.TaskFaults.JobFault.{not_due, body}
use Rattle.files.specs.TaskFaults.FactsFault.{not_due as facts_not_due, list}
use Rattle.files.specs.Reading.{RowRead, JobRead, FactsRead, JobsRead, SoundJobs, EndsFault}
use Rattle.files.specs.Reading.EndsFault.{goal, bytes_follow}
use Rattle.files.proofs.FactLists.{clean_below, clean_sound, facts_clean}
use Rattle.files.proofs.RecordLaws.{found_due, found_body, found_stands, due_sound, stands_due, stands_body, stands_behind, stands_record}
use Rattle.files.proofs.BodyLaws.{row_sound}

-- a job record was found
module _ (n : ℕ) (file : List ℕ) (p : ℕ) (q : Placed) (found : Found file p (Ok q)) (b : Bor (List ℕ)) (is : q.record ≡ Job b) where
  -- and its body read
  pub job_read : (r : Row) → RowRead n b.now p (Ok r) → JobRead n file p (Ok (r, q.end))
  job_read r (limits, stands_for) = let s = found_stands file p q found AC b.now (ap told is) in (limits, rw stands_for at s)

  -- or its body is at fault
  pub job_fault : (e : Refusal) → RowRead n b.now p (Err e) → JobRead n file p (Err e)
  job_fault e (fault, at) = (body (found_due file p q found AC b.now (ap told is)) (rw (found_body file p q found AC b.now (ap told is)) at fault), at)

-- a record of mark k was found, and its list read
pub facts_read : (k : Mark) (n : ℕ) (file : List ℕ) (p : ℕ) (q : Placed) → Found file p (Ok q) → (b : List ℕ) → told q.record ≡ (k, b)
    → (s : FactSet) → ListRead n b p (Ok s) → FactsRead k n file p (Ok (s, q.end))
facts_read k n file p q found b is s (sound, listed, plain) =
    let stands = found_stands file p q found k b is in (clean_below n b s sound listed, plain, rw (← listed) at stands)

-- the record of a job within the limits is not at fault
pub job_sound : (n : ℕ) (file : List ℕ) (p : ℕ) (r : Row) (q c : ℕ) → RowLimits n r → Stands file p (job_bytes r) q → JobFault n file p c → ⊥
job_sound n file p r q c limits stands (not_due off) = due_sound file p AC c (stands_due file p AC (job_body r) q stands) off
job_sound n file p r q c limits stands (body _ fault) =
    row_sound n r c limits (rw (stands_body file p AC (job_body r) q stands) at fault)

-- nor is that of a list of facts below n
pub facts_sound : (k : Mark) (n : ℕ) (file : List ℕ) (p : ℕ) (s : FactSet) (q c : ℕ) → Below n s → Stands file p (record_bytes k (facts_of s)) q
    → FactsFault k n file p c → ⊥
facts_sound k n file p s q c below stands (facts_not_due off) = due_sound file p k c (stands_due file p k (facts_of s) q stands) off
facts_sound k n file p s q c below stands (list _ fault) =
    clean_sound 5 n (facts_of s) c (facts_clean n s below) (rw (stands_body file p k (facts_of s) q stands) at fault)

-- the records of jobs that stand from record i on: where they end, and that none is at fault
from_record : (n : ℕ) (file : List ℕ) (i : ℕ) (rows : List Row) (q : ℕ) → AllByRecursion (RowLimits n) rows → Stands file (place file i) (flat_map job_bytes rows) q
    → (q ≡ place file (i + length rows)) × ((l : ℕ) → i ≤ l → l < i + length rows → (c : ℕ) → JobFault n file (place file l) c → ⊥)
from_record n file i [] q limits s = (let e : i + 0 ≡ i = omega arith in rw e (let end = s.end in omega arith), λ l le lt c. absurd (omega arith))
from_record n file i (r ∷ rs) q (here, all) s =
    let (first, rest) = stands_record file (place file i) q AC (job_body r) (flat_map job_bytes rs) s in
    let (end, sound) = from_record n file (suc i) rs q all rest in (
      (let next : suc i + length rs ≡ i + suc (length rs) = omega arith in end ∙ ap (place file) next),
      λ l le lt c fault. elim (cases_eq i l) [
        | inl is ↦ job_sound n file (place file i) r _ c here first (rw (← is) at fault)
        | inr ne ↦ sound l (omega arith) (omega arith) c fault
      ],
    )

pub jobs_sound : (n : ℕ) (file : List ℕ) (rows : List Row) (q : ℕ) → AllByRecursion (RowLimits n) rows → Stands file (place file 1) (flat_map job_bytes rows) q
    → (q ≡ place file (suc (length rows))) × SoundJobs n file (length rows)
jobs_sound n file rows q limits stands =
    let (end, sound) = from_record n file 1 rows q limits stands in
    let next : 1 + length rows ≡ suc (length rows) = omega arith in
    (end ∙ ap (place file) next, λ i lt. sound (suc i) (omega arith) (omega arith))

-- j job records were read into the first rows, and the next is due at byte p
pub record JobsSoFar (n : ℕ) (file : List ℕ) (rows : List Row) (j p : ℕ) : Type 0 where
  pub limits : AllByRecursion (RowLimits n) (take j rows)
  pub stands : Stands file (place file 1) (flat_map job_bytes (take j rows)) p

-- the next is at fault
pub next_fault : (n : ℕ) (file : List ℕ) (rows : List Row) (j p : ℕ) (e : Refusal) → j < length rows → JobsSoFar n file rows j p
    → JobRead n file p (Err e) → JobsRead n file rows (Err e)
next_fault n file rows j p e lt so_far (fault, at) =
    let (next, sound) = jobs_sound n file (take j rows) p so_far.limits so_far.stands in
    let size : length (take j rows) ≡ j = length-take-le j rows (omega arith) in
    let here : p ≡ place file (suc j) = next ∙ ap (λ (i : ℕ). place file (suc i)) size in
    (j, lt, (rw here at fault, at ∙ here), rw size at sound)

-- behind the last
pub all_jobs : (n : ℕ) (file : List ℕ) (rows : List Row) (j p : ℕ) → j ≡ length rows → JobsSoFar n file rows j p → JobsRead n file rows (Ok p)
all_jobs n file rows j p all so_far =
    let whole : take j rows ≡ rows = take_all j rows (omega arith) in
    let limits = so_far.limits in let stands = so_far.stands in (rw whole at limits, rw whole at stands)

-- the start was read
module _ (n : ℕ) (file : List ℕ) (p : ℕ) (s : FactSet) (q : ℕ) (started : FactsRead ST n file p (Ok (s, q))) where
  start_sound : (d : ℕ) → FactsFault ST n file p d → ⊥
  start_sound d = facts_sound ST n file p s q d started.0 started.2

  start_behind : q ≡ behind file p
  start_behind = sym (stands_behind file p ST (facts_of s) q started.2)

  -- but the goal is at fault
  pub goal_fault : (e : Refusal) → FactsRead GO n file q (Err e) → EndsFault n file p (numbers e).0 (numbers e).1
  goal_fault e (fault, at) = goal start_sound (rw start_behind at fault) (at ∙ start_behind)

  -- and the goal, but bytes follow
  pub more_bytes : (g : FactSet) (r : ℕ) → FactsRead GO n file q (Ok (g, r)) → r < length file → EndsFault n file p 8 r
  more_bytes g r aimed more =
      bytes_follow start_sound (λ d fault. facts_sound GO n file q g r d aimed.0 aimed.2 (rw (← start_behind) at fault))
      (sym (stands_behind file q GO (facts_of g) r aimed.2) ∙ ap (behind file) start_behind) more refl
