-- What is said of the page that is printed, or of the text in its place, is true of one text only.
use Rattle.std.proofs.Common.{◌≡◌, ℕ, List, ◌++◌, Ok, Err, Result, sym, ◌∙◌, ap, ap₂, inl, inr, arith}
use Rattle.std.specs.Prelude.{codes}
use Rattle.strips.specs.Tasks.{Meaning}
use Rattle.strips.specs.Rules.{apart}
use Rattle.strips.specs.Rounds.{Round}
use Rattle.pages.specs.Names.{Names}
use Rattle.pages.specs.Pages.{page}
use Rattle.planning.specs.declared.refusal.Refusal.{Refusal}
use Rattle.planning.specs.Refusals.{told}
use Rattle.names.specs.NameFiles.{given}
use Rattle.names.proofs.NameLaws.{one_list, fit_not_faulty}
use Rattle.names.proofs.OneReading.{one_names_fault}
use Rattle.report.specs.declared.lines.Refused.{Refused}
use Rattle.report.specs.declared.lines.Refused.TheVariants.{Task, Plan}
use Rattle.report.specs.declared.no_page.NoPage.{NoPage}
use Rattle.report.specs.declared.no_page.NoPage.TheVariants.{Refused as file_refused, Names as names_refused, Unsound}
use Rattle.report.specs.Lines.{lines_of, refused_line}
use Rattle.report.specs.Files.{TaskOf, SheetOf, FilesAnswered}
use Rattle.report.specs.Pages.{NamesOf, NamesRefused, FilesPrinted}
use Rattle.report.specs.Printed.{page_or_why, OnePage}
use Rattle.report.proofs.OneText.{same_task, no_task, no_sheet, one_sheet, same_numbers, same_text, one_answer}

-- a file is the bytes of one list of entries, which give one name to each job
one_naming : (T : Meaning) (nf : List ℕ) (N N' : Names) → NamesOf T nf N → NamesOf T nf N' → N ≡ N'
one_naming T nf N N' (_, (es, bytes, _, is)) (_, (es', bytes', _, is')) =
    let same = one_list nf es es' bytes bytes' in is ∙ ap given same ∙ sym is'

-- a file that is the bytes of entries that may be read is not refused
no_names : (T : Meaning) (nf : List ℕ) (N : Names) (e : Refusal) → NamesOf T nf N → NamesRefused T nf e → ⊥
no_names T nf N e (small, _) (inl (large, _)) = omega arith
no_names T nf N e (_, (es, bytes, fit, _)) (inr (_, first)) = fit_not_faulty T.m nf (told e).0 (told e).1 es fit bytes first

names_refused_once : (T : Meaning) (nf : List ℕ) (e e' : Refusal) → NamesRefused T nf e → NamesRefused T nf e' → told e ≡ told e'
names_refused_once T nf e e' (inl (_, is)) (inl (_, is')) = is ∙ sym is'
names_refused_once T nf e e' (inl (large, _)) (inr (small, _)) = absurd (omega arith)
names_refused_once T nf e e' (inr (small, _)) (inl (large, _)) = absurd (omega arith)
names_refused_once T nf e e' (inr (_, f)) (inr (_, f')) = same_numbers _ _ _ _ (one_names_fault T.m nf _ _ _ _ f f')

module _ (tf pf nf : List ℕ) where
  -- two files that are the bytes of a task and of rounds are not refused
  not_refused : (e : Refused) → FilesAnswered tf pf (Err e) → (T : Meaning) → TaskOf tf T → (rs : List Round) → SheetOf T pf rs → ⊥
  not_refused (Task e) bad T task rs sheet = no_task tf T e task bad
  not_refused (Plan e) (T', task', bad) T task rs sheet =
      let same = same_task tf T T' task task' in no_sheet T pf rs e sheet (rw (← same) at bad)

  -- nor is a third that is those of names
  names_not_refused : (T T' : Meaning) → TaskOf tf T → TaskOf tf T' → (N : Names) → NamesOf T nf N → (e : Refusal) → NamesRefused T' nf e → ⊥
  names_not_refused T T' task task' N names e bad =
      let same = same_task tf T T' task task' in no_names T nf N e names (rw (← same) at bad)

  same_page : (r s : Result (List ℕ) NoPage) → FilesPrinted tf pf nf r → FilesPrinted tf pf nf s → page_or_why r ≡ page_or_why s
  same_page (Err (file_refused e)) (Err (file_refused e')) a a' = same_text tf pf (Err e) (Err e') a a'
  same_page (Err (file_refused e)) (Err (names_refused _)) a (T, task, (rs, sheet), _) = absurd (not_refused e a T task rs sheet)
  same_page (Err (file_refused e)) (Err (Unsound _ _)) a (T, task, (rs, sheet, _)) = absurd (not_refused e a T task rs sheet)
  same_page (Err (file_refused e)) (Ok _) a (T, task, (rs, sheet, _)) = absurd (not_refused e a T task rs sheet)
  same_page (Err (names_refused _)) (Err (file_refused e)) (T, task, (rs, sheet), _) a = absurd (not_refused e a T task rs sheet)
  same_page (Err (Unsound _ _)) (Err (file_refused e)) (T, task, (rs, sheet, _)) a = absurd (not_refused e a T task rs sheet)
  same_page (Ok _) (Err (file_refused e)) (T, task, (rs, sheet, _)) a = absurd (not_refused e a T task rs sheet)
  same_page (Err (names_refused e)) (Err (names_refused e')) (T, task, _, bad) (T', task', _, bad') =
      let same = same_task tf T T' task task' in
      ap (refused_line (codes "names")) (names_refused_once T nf e e' bad (rw (← same) at bad'))
  same_page (Err (names_refused e)) (Err (Unsound _ _)) (T', task', _, bad) (T, task, (_, _, (N, names, _))) =
      absurd (names_not_refused T T' task task' N names e bad)
  same_page (Err (names_refused e)) (Ok _) (T', task', _, bad) (T, task, (_, _, (N, names, _))) =
      absurd (names_not_refused T T' task task' N names e bad)
  same_page (Err (Unsound _ _)) (Err (names_refused e)) (T, task, (_, _, (N, names, _))) (T', task', _, bad) =
      absurd (names_not_refused T T' task task' N names e bad)
  same_page (Ok _) (Err (names_refused e)) (T, task, (_, _, (N, names, _))) (T', task', _, bad) =
      absurd (names_not_refused T T' task task' N names e bad)
  same_page (Err (Unsound rep e)) (Err (Unsound rep' e')) (T, task, (rs, sheet, (_, _, (_, answer, is)))) (T', task', (rs', sheet', (_, _, (_, answer', is')))) =
      let same = same_task tf T T' task task' in
      let rounds : rs ≡ rs' = one_sheet T pf rs rs' sheet (rw (← same) at sheet') in
      let reports = one_answer T apart rs rep rep' answer (rw (← same, ← rounds) at answer') in
      let numbers : told e ≡ told e' = is ∙ sym is' in
      ap₂ {C = List ℕ} (λ x t. lines_of x ++ refused_line (codes "sheet") t) reports numbers
  same_page (Err (Unsound _ _)) (Ok _) (T, task, (rs, sheet, (_, _, (no_plan, _, _)))) (T', task', (rs', sheet', (_, _, (plan, _)))) =
      let same = same_task tf T T' task task' in
      let rounds : rs ≡ rs' = one_sheet T pf rs rs' sheet (rw (← same) at sheet') in
      absurd (no_plan (rw (← same, ← rounds) at plan))
  same_page (Ok _) (Err (Unsound _ _)) (T', task', (rs', sheet', (_, _, (plan, _)))) (T, task, (rs, sheet, (_, _, (no_plan, _, _)))) =
      let same = same_task tf T T' task task' in
      let rounds : rs ≡ rs' = one_sheet T pf rs rs' sheet (rw (← same) at sheet') in
      absurd (no_plan (rw (← same, ← rounds) at plan))
  same_page (Ok out) (Ok out') (T, task, (rs, sheet, (N, names, (_, is)))) (T', task', (rs', sheet', (N', names', (_, is')))) =
      let same = same_task tf T T' task task' in
      let rounds : rs ≡ rs' = one_sheet T pf rs rs' sheet (rw (← same) at sheet') in
      let naming : N ≡ N' = one_naming T nf N N' names (rw (← same) at names') in
      is ∙ ap₂ {C = List ℕ} (page T.m) naming rounds ∙ ap (λ (X : Meaning). page X.m N' rs') same ∙ sym is'

pub one_page : OnePage
one_page tf pf nf out out' (r, a, is) (s, a', is') = is ∙ same_page tf pf nf r s a a' ∙ sym is'
