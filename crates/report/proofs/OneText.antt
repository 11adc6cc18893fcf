-- What is said of the text that is printed is true of one text only.
use Rattle.std.proofs.Common.{◌≡◌, ℕ, ◌+◌, ◌<◌, min, true, false, List, [], length, map, take, replicate, Ok, Err, Result, refl, sym, ◌∙◌, ap, inl, inr, arith}
use Rattle.std.specs.Prelude.{ℤ, Option, codes}
use Rattle.std.specs.List.{slice_get}
use Rattle.std.specs.Option.{option_map}
use Rattle.std.proofs.lemmas.Bool.{lt-ltb}
use Rattle.std.proofs.lemmas.List.{length-replicate}
use Rattle.sets.specs.declared.facts.FactSet.{FactSet}
use Rattle.sets.specs.declared.jobs.JobSet.{JobSet}
use Rattle.sets.specs.Search.{listed}
use Rattle.sets.proofs.SearchLaws.{lowest_one}
use Rattle.strips.specs.declared.header.Header.{Header}
use Rattle.strips.specs.declared.row.Row.{Row}
use Rattle.strips.specs.Tasks.{Meaning}
use Rattle.strips.specs.Rules.{Says, apart}
use Rattle.strips.specs.Rounds.{Round}
use Rattle.strips.specs.Loading.{job_of, loaded}
use Rattle.verdicts.specs.declared.verdict.Verdict.{Verdict}
use Rattle.verdicts.specs.declared.verdict.Verdict.TheVariants.{Closed, Clash, Missing, Goal, Sound}
use Rattle.verdicts.specs.Verdicts.{told as words}
use Rattle.planning.specs.declared.book.Book.{Book}
use Rattle.planning.specs.declared.refusal.Refusal.{Refusal}
use Rattle.planning.specs.declared.report.Distance.{Distance}
use Rattle.planning.specs.declared.report.Report.{Report}
use Rattle.planning.specs.Refusals.{told}
use Rattle.planning.specs.Reports.{told as distance_told, number, none, at_least}
use Rattle.planning.specs.Adding.{free}
use Rattle.planning.proofs.DistanceLaws.{same_distance, one_excess}
use Rattle.files.specs.SheetFiles.{sheet_bytes, RoundsFit, faulty, FirstSheetFault}
use Rattle.files.proofs.TaskLaws.{one_task, not_at_fault}
use Rattle.files.proofs.SheetLaws.{one_list, refused_exactly}
use Rattle.files.proofs.OneLoading.{one_task_fault}
use Rattle.files.proofs.OneReading.{one_sheet_fault}
use Rattle.report.specs.declared.lines.Refused.{Refused}
use Rattle.report.specs.declared.lines.Refused.TheVariants.{Task, Plan}
use Rattle.report.specs.Lines.{lines_of, refused_line, text_of}
use Rattle.report.specs.Answers.{TrueOf, Answer}
use Rattle.report.specs.Files.{TaskOf, TaskRefused, SheetOf, PlanRefused, FilesAnswered}
use Rattle.report.specs.Printed.{OneText}

-- the task of these numbers, start, goal and rows
task : ℕ → ℕ → FactSet → FactSet → List Row → Meaning
task n m s g rows =
    record { n = n; m = min m (length rows); start = s; goal = g; job = λ j. option_map (job_of n) (slice_get (take m rows) j) }

task_is : (h : Header) (rows : List Row) → loaded h rows ≡ task h.n h.m h.start h.goal rows
unfolding task
task_is h rows = refl

-- a file is the bytes of one task
pub same_task : (tf : List ℕ) (T T' : Meaning) → TaskOf tf T → TaskOf tf T' → T ≡ T'
same_task tf T T' (_, (h, rows, file, is)) (_, (h', rows', file', is')) =
    let same = one_task tf h h' rows rows' file file' in
    let a = task_is h rows in
    let b = task_is h' rows' in
    cc

-- a file that is the bytes of a task is not refused
pub no_task : (tf : List ℕ) (T : Meaning) (e : Refusal) → TaskOf tf T → TaskRefused tf e → ⊥
no_task tf T e (small, _) (inl (large, _)) = omega arith
no_task tf T e (_, (h, rows, file, _)) (inr (_, first)) = not_at_fault h rows tf file 255 (told e).0 (told e).1 h.limits.2 first

pub same_numbers : (c p c' p' : ℕ) → (c ≡ c') × (p ≡ p') → ◌≡◌ {A = ℕ × ℕ} (c, p) (c', p')
same_numbers c p c' p' (own, place) = cc

task_refused_once : (tf : List ℕ) (e e' : Refusal) → TaskRefused tf e → TaskRefused tf e' → told e ≡ told e'
task_refused_once tf e e' (inl (_, is)) (inl (_, is')) = is ∙ sym is'
task_refused_once tf e e' (inl (large, _)) (inr (small, _)) = absurd (omega arith)
task_refused_once tf e e' (inr (small, _)) (inl (large, _)) = absurd (omega arith)
task_refused_once tf e e' (inr (_, f)) (inr (_, f')) = same_numbers _ _ _ _ (one_task_fault tf 255 _ _ _ _ f f')

plan_refused_once : (T : Meaning) (pf : List ℕ) (e e' : Refusal) → PlanRefused T pf e → PlanRefused T pf e' → told e ≡ told e'
plan_refused_once T pf e e' (inl (_, is)) (inl (_, is')) = is ∙ sym is'
plan_refused_once T pf e e' (inl (large, _)) (inr (small, _)) = absurd (omega arith)
plan_refused_once T pf e e' (inr (small, _)) (inl (large, _)) = absurd (omega arith)
plan_refused_once T pf e e' (inr (_, f)) (inr (_, f')) = same_numbers _ _ _ _ (one_sheet_fault T.m 500 0 pf _ _ _ _ f f')

-- lists that can all be added have no record at fault
fit_not_refused : (m k : ℕ) (pf : List ℕ) (lists : List (List ℕ)) (c p : ℕ) → RoundsFit m k 0 lists → pf ≡ sheet_bytes lists
    → FirstSheetFault m k 0 pf c p → ⊥
fit_not_refused m k pf lists c p fit is first =
    let b : Book = record { n = 0; m = m; t = 0; settled = false; rounds = 0 } in
    let place : JobSet = record { words = [] } in
    let len : length (replicate k place) ≡ k = length-replicate k place in
    refused_exactly b (replicate k place) pf c p (faulty (omega arith) (rw len first)) lists (rw len fit) is

-- a file that is the bytes of rounds is not refused
pub no_sheet : (T : Meaning) (pf : List ℕ) (rs : List Round) (e : Refusal) → SheetOf T pf rs → PlanRefused T pf e → ⊥
no_sheet T pf rs e (small, _) (inl (large, _)) = omega arith
no_sheet T pf rs e (_, (lists, is, few, fine, _)) (inr (_, first)) =
    fit_not_refused T.m 500 pf lists _ _ record { places_for = omega arith; lists = fine; room = λ i lt. room i (omega arith) } is first
  where
    room : (i : ℕ) → i < 500 → free 500 (0 + i) ≡ true
    room i lt = lt-ltb _ _ (omega arith)

-- a file is the bytes of one list of rounds
pub one_sheet : (T : Meaning) (pf : List ℕ) (rs rs' : List Round) → SheetOf T pf rs → SheetOf T pf rs' → rs ≡ rs'
one_sheet T pf rs rs' (_, (lists, is, _, _, r)) (_, (lists', is', _, _, r')) =
    let same = one_list pf lists lists' is is' in r ∙ ap (map listed) same ∙ sym r'

-- a verdict is what is told of it
same_verdict : (v w : Verdict) → words v ≡ words w → v ≡ w
same_verdict v w e = numbered v w (ap (λ (x : List ℕ × List ℕ). x.0) e) (ap (λ (x : List ℕ × List ℕ). x.1) e)
  where
    numbered : (v w : Verdict) → (words v).0 ≡ (words w).0 → (words v).1 ≡ (words w).1 → v ≡ w
    numbered (Closed r j) (Closed r' j') word numbers = cc
    numbered (Clash r j k) (Clash r' j' k') word numbers = cc
    numbered (Missing r j f) (Missing r' j' f') word numbers = cc
    numbered (Goal f) (Goal f') word numbers = cc
    numbered Sound Sound word numbers = refl
    numbered _ _ word numbers = cc

-- the report of these parts
report : ℕ → Verdict → Distance → Option ℤ → Report
report rounds v d x = record { rounds = rounds; verdict = v; distance = d; excess = x }

report_is : (rep : Report) → rep ≡ report rep.rounds rep.verdict rep.distance rep.excess
unfolding report
report_is rep = refl

module _ (T : Meaning) (R : Says) where
  one_distance : (d d' : Distance) → TrueOf T R d → TrueOf T R d' → distance_told d ≡ distance_told d'
  one_distance d d' (number x e is) (number x' e' is') = let same = lowest_one _ x x' is is' in cc
  one_distance d d' (number x _ (at, _)) (none _ never) = absurd (never x at)
  one_distance d d' (none _ never) (number x _ (at, _)) = absurd (never x at)
  one_distance d d' (none e _) (none e' _) = e ∙ sym e'
  one_distance d d' (at_least _ _ wrong) _ = absurd wrong
  one_distance d d' _ (at_least _ _ wrong) = absurd wrong

  -- rounds have one answer
  pub one_answer : (rs : List Round) (rep rep' : Report) → Answer T R rs rep → Answer T R rs rep' → rep ≡ rep'
  one_answer rs rep rep' a a' =
      let rounds : rep.rounds ≡ rep'.rounds = a.rounds ∙ sym a'.rounds in
      let distance : rep.distance ≡ rep'.distance = same_distance _ _ (one_distance rep.distance rep'.distance a.distance a'.distance) in
      let verdict : rep.verdict ≡ rep'.verdict = same_verdict _ _ (a'.verdict.only rep.verdict a.verdict.first_fault) in
      let excess : rep.excess ≡ rep'.excess = one_excess rep.distance (length rs) _ _ a.excess (rw (← distance) at a'.excess) in
      let is = report_is rep in
      let is' = report_is rep' in
      cc

-- two files are answered with one text
pub same_text : (tf pf : List ℕ) (r s : Result Report Refused) → FilesAnswered tf pf r → FilesAnswered tf pf s → text_of r ≡ text_of s
same_text tf pf (Ok rep) (Ok rep') (T, task, (rs, sheet, answer)) (T', task', (rs', sheet', answer')) =
    let same = same_task tf T T' task task' in
    let rounds : rs ≡ rs' = one_sheet T pf rs rs' sheet (rw (← same) at sheet') in
    ap lines_of (one_answer T apart rs rep rep' answer (rw (← same, ← rounds) at answer'))
same_text tf pf (Ok _) (Err (Plan e)) (T, task, (rs, sheet, _)) (T', task', bad) =
    absurd (no_sheet T pf rs e sheet (let same = same_task tf T T' task task' in rw (← same) at bad))
same_text tf pf (Err (Plan e)) (Ok _) (T', task', bad) (T, task, (rs, sheet, _)) =
    absurd (no_sheet T pf rs e sheet (let same = same_task tf T T' task task' in rw (← same) at bad))
same_text tf pf (Err (Plan e)) (Err (Plan e')) (T, task, bad) (T', task', bad') =
    let same = same_task tf T T' task task' in
    ap (refused_line (codes "plan")) (plan_refused_once T pf e e' bad (rw (← same) at bad'))
same_text tf pf (Err (Task e)) (Err (Task e')) bad bad' = ap (refused_line (codes "task")) (task_refused_once tf e e' bad bad')
same_text tf pf (Err (Task e)) (Err (Plan _)) bad (T, task, _) = absurd (no_task tf T e task bad)
same_text tf pf (Err (Task e)) (Ok _) bad (T, task, _) = absurd (no_task tf T e task bad)
same_text tf pf (Err (Plan _)) (Err (Task e)) (T, task, _) bad = absurd (no_task tf T e task bad)
same_text tf pf (Ok _) (Err (Task e)) (T, task, _) bad = absurd (no_task tf T e task bad)

pub one_text : OneText
one_text tf pf out out' (r, answer, is) (s, answer', is') = is ∙ same_text tf pf r s answer answer' ∙ sym is'
