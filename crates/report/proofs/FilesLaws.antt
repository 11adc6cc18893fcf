-- What loading and the sheet file are answered is what the two files are.
use Rattle.std.proofs.Common.{◌≡◌, List, ℕ, Ok, Err, Result}
use Rattle.std.specs.Prelude.{MatchResult, IsErrAnd}
use Rattle.std.proofs.lemmas.Result.{err_from_is_err_and}
use Rattle.strips.specs.declared.header.Header.{Header}
use Rattle.strips.specs.declared.row.Row.{Row}
use Rattle.strips.specs.Loading.{loaded}
use Rattle.strips.specs.Tasks.{Meaning}
use Rattle.planning.specs.declared.refusal.Refusal.{Refusal}
use Rattle.planning.specs.declared.report.Report.{Report}
use Rattle.report.specs.declared.lines.Refused.{Refused}
use Rattle.report.specs.declared.lines.Refused.TheVariants.{Task, Plan}
use Rattle.report.specs.Files.{TaskOf, TaskLoaded, PlanAnswered, FilesAnswered}

-- the task that was loaded, where what loading answers is handed on
pub task_of : (tf : List ℕ) (rows : List Row) (r : Result Header Refusal) → TaskLoaded tf r rows
    → (r' : Result Header Refused) → MatchResult r (λ h. r' ≡ Ok h) (λ e. IsErrAnd r' (λ y. y ≡ Task e))
    → (h : Header) → r' ≡ Ok h → TaskOf tf (loaded h rows)
task_of tf rows (Ok h') task r' is h was = let same : h' ≡ h = cc in rw same at task
task_of tf rows (Err e) _ r' is h was = let p = err_from_is_err_and r' is in absurd (let q = p.1 in cc)

pub files_answered : (tf pf : List ℕ) (T : Meaning) → TaskOf tf T → (r : Result Report Refusal) → PlanAnswered T pf r
    → (r' : Result Report Refused) → MatchResult r (λ rep. r' ≡ Ok rep) (λ e. IsErrAnd r' (λ y. y ≡ Plan e)) → FilesAnswered tf pf r'
files_answered tf pf T task (Ok rep) plan r' is = rw is (T, task, plan)
files_answered tf pf T task (Err e) plan r' is = let p = err_from_is_err_and r' is in rw (p.1, p.2) (T, task, plan)
