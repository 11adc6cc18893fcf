-- What printing the page of a sheet that was read comes to.
use Rattle.std.proofs.Common.{◌≡◌, ℕ, ◌<◌, ◌≤◌, List, ◌++◌, length, take, drop, Ok, Err, Result, refl, ap, ◌∙◌, arith}
use Rattle.std.specs.Prelude.{MatchResult, IsErrAnd, IsOkAnd}
use Rattle.std.proofs.lemmas.Result.{err_from_is_err_and}
use Rattle.std.proofs.lemmas.List.{length-map, take-append-le, take_all}
use Rattle.sets.specs.declared.jobs.JobSet.{JobSet}
use Rattle.sets.specs.Search.{listed}
use Rattle.strips.specs.Tasks.{Meaning, Admitted}
use Rattle.strips.specs.Rules.{apart}
use Rattle.strips.specs.JobLaws.{apart_lawful}
use Rattle.strips.specs.Rounds.{Round, Plan}
use Rattle.reach.specs.Tables.{Table}
use Rattle.pages.specs.declared.name.NamePlace.{NamePlace}
use Rattle.pages.specs.Names.{Names}
use Rattle.pages.specs.Pages.{page}
use Rattle.pages.proofs.PageLaws.{page_few}
use Rattle.planning.specs.declared.book.Book.{Book}
use Rattle.planning.specs.declared.issued.Issued.{Issued}
use Rattle.planning.specs.declared.issued.NotIssued.{NotIssued}
use Rattle.planning.specs.declared.refusal.Refusal.{Refusal}
use Rattle.planning.specs.declared.report.Report.{Report}
use Rattle.planning.specs.Refusals.{told}
use Rattle.planning.specs.Issuing.{Issuing}
use Rattle.planning.specs.Printing.{Written, written, no_room}
use Rattle.planning.specs.Main.{IssuedOfRuns, PageOfRuns}
use Rattle.report.specs.declared.lines.Refused.{Refused}
use Rattle.report.specs.declared.lines.Refused.TheVariants.{Plan as plan_refused}
use Rattle.report.specs.declared.no_page.NoPage.{NoPage}
use Rattle.report.specs.declared.no_page.NoPage.TheVariants.{Refused as file_refused, Names as names_refused, Unsound}
use Rattle.report.specs.Answers.{Answer, AnswersRuns, Led, GrownOn}
use Rattle.report.specs.Files.{TaskOf, SheetOf, PlanRead}
use Rattle.report.specs.Pages.{NamesOf, NamesLoaded, RoundsPrinted, SheetPrinted, front_of, FilesPrinted}

-- what was handed on
pub ok_of : {A : Type 0} {E : Type 0} (r : Result A Refusal) (r' : Result A E) (P : Refusal → E → Type 0)
    → MatchResult r (λ x. r' ≡ Ok x) (λ e. IsErrAnd r' (λ y. P e y)) → (x : A) → r' ≡ Ok x → r ≡ Ok x
ok_of (Ok x') r' P is x was = let same : x' ≡ x = cc in ap Ok same
ok_of (Err e) r' P is x was = let p = err_from_is_err_and r' is in absurd (let q = p.1 in cc)

pub err_of : {A : Type 0} {E : Type 0} (r : Result A Refusal) (r' : Result A E) (P : Refusal → E → Type 0)
    → MatchResult r (λ x. r' ≡ Ok x) (λ e. IsErrAnd r' (λ y. P e y)) → (x : E) → r' ≡ Err x → (e : Refusal) × (r ≡ Err e) × P e x
err_of (Ok x') r' P is x was = absurd cc
err_of (Err e) r' P is x was =
    let p = err_from_is_err_and r' is in
    let same : p.0 ≡ x = (let q = p.1 in cc) in
    (e, refl, rw same at p.2)

-- the bytes at the front of the memory
front : (out rest : List ℕ) → take (length out) (out ++ rest) ≡ out
front out rest = take-append-le (length out) out rest (omega arith) ∙ take_all (length out) out (omega arith)

module _ (T : Meaning) (N : Names) (ok : Admitted T) (b : Book) (tb : Table) (sh : List JobSet) (b' : Book) (tb' : Table)
    (grown : GrownOn T apart b tb sh b' tb') (rs : List Round) (led : Led T apart b tb sh rs) (few : length rs ≤ 500) where
  -- the report on the rounds
  pub report_of : (r : Result Report Refusal) → AnswersRuns T apart b tb sh r → IsOkAnd r (Answer T apart rs)
  report_of r answers = let (σ, here, rounds) = led in rw rounds at (answers σ here)

  room : (mem : List ℕ) → length mem ≡ 3187500 → length mem < length (page T.m N rs) → ⊥
  room mem is lt = let small = page_few T.m N rs ok.few_jobs in omega arith

  module _ (i : Issued) (issuing : Issuing T apart b' tb' sh (Ok i)) (issued : IssuedOfRuns T apart b' tb' sh (Ok i))
      (mem mem' : List ℕ) (space : length mem ≡ 3187500) (r : Result ℕ Refusal) (prints : PageOfRuns T N i sh mem r mem') where
    wrote : Written (page T.m N rs) mem r mem'
    wrote =
        let (τ, here, rounds) = grown rs led in
        let book : τ.last.book ≡ i.book = rw (here, issuing.1) refl in
        let sheet : τ.last.sheet ≡ sh = rw here refl in
        rw rounds at (prints apart apart_lawful τ book sheet)

    plan : Plan T apart rs
    plan = let (τ, here, rounds) = grown rs led in rw rounds at (issued τ here)

    pub not_refused : (e : Refusal) → r ≡ Err e → ⊥
    not_refused e is = elim wrote [
      | written _ said _ ↦ absurd cc
      | no_room lt _ _ ↦ room mem space lt
    ]

    pub printed_page : (k : ℕ) → r ≡ Ok k → RoundsPrinted T N rs (Ok (take k mem'))
    printed_page k is = (plan, of_written wrote)
      where
        of_written : Written (page T.m N rs) mem r mem' → take k mem' ≡ page T.m N rs
        of_written (written _ said mem_is) =
            let count : k ≡ length (page T.m N rs) = cc in
            rw (count, mem_is) (front (page T.m N rs) (drop (length (page T.m N rs)) mem))
        of_written (no_room lt _ _) = absurd (room mem space lt)

  -- where the sheet isn't sound
  pub not_issued : (e : NotIssued) → IssuedOfRuns T apart b' tb' sh (Err e) → (¬ Plan T apart rs) × (told e.refusal ≡ (14, 0))
  not_issued e issued = let (τ, here, rounds) = grown rs led in rw rounds at (issued τ here)

module _ (tf pf nf : List ℕ) (T : Meaning) (task : TaskOf tf T) (mem : List ℕ) (r : Result ℕ NoPage) where
  -- a sheet file that is refused
  pub plan_not_read : (read : Result Book Refusal) (tb : Table) (sh : List JobSet) → PlanRead T pf read tb sh → (handed : Result Book Refused)
      → MatchResult read (λ x. handed ≡ Ok x) (λ e. IsErrAnd handed (λ y. y ≡ plan_refused e)) → (x : Refused) → handed ≡ Err x
      → IsErrAnd r (λ y. y ≡ file_refused x) → FilesPrinted tf pf nf (front_of mem r)
  plan_not_read read tb sh reading handed hands x was is =
      let (e, bad, told) = err_of read handed (λ e y. y ≡ plan_refused e) hands x was in
      let p = err_from_is_err_and r is in
      rw (p.1, p.2, told) (T, task, rw bad at reading)

  -- a names file that is
  pub names_not_read : (rs : List Round) → SheetOf T pf rs → (read : Result Unit Refusal) (places : List NamePlace) → NamesLoaded T nf read places
      → (handed : Result Unit NoPage) → MatchResult read (λ x. handed ≡ Ok x) (λ e. IsErrAnd handed (λ y. y ≡ names_refused e))
      → (x : NoPage) → handed ≡ Err x → IsErrAnd r (λ y. y ≡ x) → FilesPrinted tf pf nf (front_of mem r)
  names_not_read rs sheet read places reading handed hands x was is =
      let (e, bad, told) = err_of read handed (λ e y. y ≡ names_refused e) hands x was in
      let p = err_from_is_err_and r is in
      rw (p.1, p.2, told) (T, task, (rs, sheet), rw bad at reading)

-- none is
pub files_printed : (tf pf nf : List ℕ) (T : Meaning) → TaskOf tf T → (N : Names) → NamesOf T nf N → (b : Book) (tb : Table) (sh : List JobSet)
    → PlanRead T pf (Ok b) tb sh → (r : Result (List ℕ) NoPage) → SheetPrinted T N b tb sh r → FilesPrinted tf pf nf r
files_printed tf pf nf T task N names b tb sh (rs, sheet, led) r paged = of_answer r (paged rs led few)
  where
    few : length rs ≤ 500
    few = let (_, (lists, _, count, _, is)) = sheet in let n = ap length is ∙ length-map lists listed in omega arith

    of_answer : (r : Result (List ℕ) NoPage) → RoundsPrinted T N rs r → FilesPrinted tf pf nf r
    of_answer (Ok out) h = (T, task, (rs, sheet, (N, names, h)))
    of_answer (Err (Unsound rep e)) h = (T, task, (rs, sheet, (N, names, h)))
    of_answer (Err (file_refused e)) h = absurd h
    of_answer (Err (names_refused e)) h = absurd h
