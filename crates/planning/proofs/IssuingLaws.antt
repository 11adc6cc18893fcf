-- What issuing answers, by what judging does, and after a list of calls.
use Rattle.std.proofs.Common.{◌≡◌, Bool, ℕ, length, ◌<◌, min, take, List, Ok, Err, Result, refl, ap, ◌∙◌, inr, length-take, arith}
use Rattle.std.proofs.lemmas.List.{length-map}
use Rattle.sets.specs.declared.jobs.JobSet.{JobSet}
use Rattle.strips.specs.Tasks.{Meaning, Admitted}
use Rattle.strips.specs.Rules.{Says, Lawful}
use Rattle.strips.specs.Rounds.{round_of}
use Rattle.verdicts.specs.declared.verdict.Verdict.TheVariants.{Sound}
use Rattle.verdicts.specs.Verdicts.{IsSound}
use Rattle.verdicts.specs.Sheets.{rounds_of, VerdictOn}
use Rattle.verdicts.proofs.SheetLaws.{verdict_on}
use Rattle.reach.specs.Tables.{Table}
use Rattle.pages.specs.Names.{Names}
use Rattle.planning.specs.declared.book.Book.{Book}
use Rattle.planning.specs.declared.issued.Issued.{Issued}
use Rattle.planning.specs.declared.issued.NotIssued.{NotIssued}
use Rattle.planning.specs.declared.refusal.Refusal.{Refusal}
use Rattle.planning.specs.declared.report.Report.{Report}
use Rattle.planning.specs.Refusals.{told}
use Rattle.planning.specs.Calls.{Reported}
use Rattle.planning.specs.Issuing.{Unsound, misfit, unsound, SoundOrNot, Issuing, JobAsked}
use Rattle.planning.specs.Printing.{FitsToPrint, PagePrinted, fit}
use Rattle.planning.specs.Printing as printing
use Rattle.planning.specs.Runs.{World, Call, sheet_of}
use Rattle.planning.specs.Main.{Worked, IssuedIfPlan, IssuedOfRuns, AskedOfRuns, PageOfRuns}
use Rattle.planning.proofs.ListsOfCalls.{stories}

module _ (T : Meaning) (R : Says) (ok : Admitted T) (law : Lawful R) (b : Book) (tb : Table) (sh : List JobSet) where
  verdict_of : (rep : Report) → Reported T R b tb sh rep → VerdictOn T R (rounds_of T.m b.rounds sh) rep.verdict
  verdict_of rep h = verdict_on T R ok law b.rounds sh rep.verdict h.verdict

  pub found_sound : (rep : Report) → Reported T R b tb sh rep → rep.verdict ≡ Sound → SoundOrNot T R b tb sh (Ok tt)
  found_sound rep h is = (h.fits, h.places, (rep.verdict, verdict_of rep h, rw is refl))

  pub found_unsound : (rep : Report) → Reported T R b tb sh rep → (IsSound rep.verdict → ⊥) → (e : Refusal) → told e ≡ (14, 0) → Unsound T R b tb sh e
  found_unsound rep h not e is = unsound h.fits h.places rep.verdict (verdict_of rep h) not is

  if_plan : {L k : ℕ} {cs : List Call} → Worked T R L k cs (record { book = b; table = tb; sheet = sh }) → (r : Result Issued NotIssued)
      → Issuing T R b tb sh r → IssuedIfPlan T R (sheet_of T.m k cs) r
  if_plan w (Ok i) ((_, _, (v, verdict, is)), _) = rw w.sheet at (verdict.sound_is_plan.0 is)
  if_plan w (Err e) (misfit why is, _) = let (rep, bad, _) = w.judged (Err e.refusal) (why, is) in absurd cc
  if_plan w (Err e) (unsound _ _ v verdict not is, _) = ((λ plan. not (verdict.sound_is_plan.1 (rw w.sheet plan))), is)

  pub issued_of_runs : (r : Result Issued NotIssued) → Issuing T R b tb sh r → IssuedOfRuns T R b tb sh r
  issued_of_runs r answer σ here = if_plan (rw here at ((stories T R ok law).worked σ)) r answer

-- after a list of calls task and sheet fit the book
fits_to_print : {T : Meaning} {R : Says} {L k : ℕ} {cs : List Call} {w : World} → Worked T R L k cs w → FitsToPrint T w.book w.sheet
fits_to_print {T} {w = v} w =
    let long : length (rounds_of T.m v.book.rounds v.sheet) ≡ min v.book.rounds (length v.sheet) =
    length-map (take v.book.rounds v.sheet) (round_of T.m) ∙ length-take v.book.rounds v.sheet in
    let same = ap length w.sheet in
    let used = w.rounds in
    record { n_is = w.fits.n_is; m_is = w.fits.m_is; places = omega arith }

-- what is printed of an issued book, after a list of calls that leads to its book and the sheet
pub page_of_runs : (T : Meaning) (N : Names) → Admitted T → (i : Issued) (sh : List JobSet) (mem : List ℕ) (r : Result ℕ Refusal) (mem' : List ℕ)
    → PagePrinted T N i sh mem r mem' → PageOfRuns T N i sh mem r mem'
page_of_runs T N ok i sh mem r mem' (printing.misfit out _ _) R law σ b s =
    let w = (stories T R ok law).worked σ in absurd (out (rw (b, s) at (fits_to_print w)))
page_of_runs T N ok i sh mem r mem' (fit _ wrote) R law σ b s =
    let w = (stories T R ok law).worked σ in rw (← w.sheet, b, s) wrote

-- what an issued book answers, after a list of calls that leads to its book and the sheet
pub asked_of_runs : (i : Issued) (sh : List JobSet) (r j : ℕ) (a : Result Bool Refusal) → JobAsked i sh r j a → AskedOfRuns i sh r j a
asked_of_runs i sh r j (Ok a) (_, is) T R ok law σ b s =
    let w = (stories T R ok law).worked σ in
    let m = w.fits.m_is in
    let rounds = w.sheet in
    cc
asked_of_runs i sh r j (Err e) (lt, is) T R ok law σ b s =
    let w = (stories T R ok law).worked σ in
    let short : length σ.last.sheet < σ.last.book.rounds = (rw (b, s) lt) in
    let (rep, bad, _) = w.judged (Err e) (inr short, is) in
    absurd cc
