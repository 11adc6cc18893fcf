-- What is judged after growing to the end is the answer.
use Rattle.std.proofs.Common.{◌≡◌, ℕ, zero, suc, List, ◌++◌, length, Ok, Result, refl, ◌∙◌}
use Rattle.std.proofs.lemmas.Bool.{both_ways}
use Rattle.sets.specs.declared.jobs.JobSet.{JobSet}
use Rattle.strips.specs.Tasks.{Meaning, Admitted}
use Rattle.strips.specs.Rules.{Says, Lawful}
use Rattle.strips.specs.Rounds.{Round}
use Rattle.layers.specs.Bounds.{Settles}
use Rattle.reach.specs.Tables.{Table}
use Rattle.planning.specs.declared.book.Book.{Book}
use Rattle.planning.specs.declared.refusal.Refusal.{Refusal}
use Rattle.planning.specs.declared.report.Distance.{Distance}
use Rattle.planning.specs.declared.report.Report.{Report}
use Rattle.planning.specs.Reports.{number, none, at_least}
use Rattle.planning.specs.Calls.{Fits, ToldBy, Judging}
use Rattle.planning.specs.Runs.{World, Call, Run, opened, called, Story, sheet_of}
use Rattle.planning.specs.Main.{ToldAfter, Decided, JudgedWell, HoldsOfRuns}
use Rattle.planning.proofs.DistanceLaws.{decided_not_more}
use Rattle.planning.proofs.ListsOfCalls.{stories}
use Rattle.report.specs.Growing.{growths, GrownOut}
use Rattle.report.specs.Answers.{TrueOf, Answer, AnswersRuns, GrownOn}

-- a list of calls after a list of calls; the latest call is the first of a list
pub run_on : {T : Meaning} {R : Says} {w₀ w w' : World} {cs ds : List Call} → Run T R w₀ cs w → Run T R w ds w' → Run T R w₀ (ds ++ cs) w'
run_on before opened = before
run_on before (called c w' r s) = called c w' (run_on before r) s

-- growings keep the rounds
pub sheet_grown : (m k n : ℕ) (cs : List Call) → sheet_of m k (growths n ++ cs) ≡ sheet_of m k cs
sheet_grown m k zero cs = refl
sheet_grown m k (suc n) cs = sheet_grown m k n cs

module _ (T : Meaning) (R : Says) where
  -- one book tells one thing from one table
  decided_too : (b : Book) (tb : Table) (d d' : Distance) → ToldBy T b tb d → Decided d → ToldBy T b tb d' → Decided d'
  decided_too b tb d d' _ _ (number x is _) = number x is tt
  decided_too b tb d d' _ _ (none is _) = none is tt
  decided_too b tb d d' (number _ _ (read, _)) _ (at_least _ _ (out, _, _)) = absurd (out read)
  decided_too b tb d d' (none _ (_, y)) _ (at_least _ _ (_, n, _)) = absurd (both_ways b.settled n y)
  decided_too b tb d d' (at_least k is _) h (at_least _ _ _) = absurd (decided_not_more d k h is)

  true_of : (L g : ℕ) → Settles T R L → (d : Distance) → Decided d → ToldAfter T R L g d → TrueOf T R d
  true_of L g last d _ (number x is (first, _)) = number x is first
  true_of L g last d _ (none is (out, _)) = none is (λ t h. out (λ p q gp gq. last.all t p q (h p q gp gq)))
  true_of L g last d h (at_least k is _) = absurd (decided_not_more d k h is)

  answers : (L g : ℕ) → Settles T R L → (rs : List Round) (rep : Report) → Decided rep.distance → JudgedWell T R L g rs rep → Answer T R rs rep
  answers L g last rs rep decided well = record {
    rounds = well.rounds;
    distance = true_of L g last rep.distance decided well.distance.exact;
    bounds = well.distance.bounds;
    verdict = well.verdict;
    excess = well.excess;
    shortest = well.shortest;
  }

  module _ (b : Book) (tb : Table) (b' : Book) (tb' : Table) (sh : List JobSet) (out : GrownOut T R b tb b' tb') where
    abbrev grown_on : (σ : Story T R) → σ.last ≡ record { book = b; table = tb; sheet = sh } → Story T R
    grown_on σ here = record {
      table = σ.table;
      first = σ.first;
      opening = σ.opening;
      calls = growths out.times ++ σ.calls;
      last = record { book = b'; table = tb'; sheet = sh };
      run = run_on σ.run (rw here (out.run sh));
    }

    pub answered : (r : Result Report Refusal) → Judging T R b' tb' sh r → HoldsOfRuns T R b' tb' sh r → AnswersRuns T R b tb sh r
    answered r told holds σ here =
        let (rep, is, well) = holds.answer (grown_on σ here) refl in
        let (d, by, decided) = out.decides in
        let known : Judging T R b' tb' sh (Ok rep) = rw is at told in
        let k = length σ.first.sheet in
        rw is (rw (sheet_grown T.m k out.times σ.calls) at
        (answers holds.stories.last_layer _ holds.stories.settles _ rep
        (decided_too b' tb' d rep.distance by decided known.distance) well))

    -- what growing until then leads to
    pub grown_led : GrownOn T R b tb sh b' tb'
    grown_led rs (σ, here, rounds) =
        (grown_on σ here, refl, sheet_grown T.m (length σ.first.sheet) out.times σ.calls ∙ rounds)

  -- a refusal leads to what was
  pub not_grown : (b : Book) (tb : Table) (sh : List JobSet) (b' : Book) (tb' : Table) → b' ≡ b → tb' ≡ tb → GrownOn T R b tb sh b' tb'
  not_grown b tb sh b' tb' bs ts rs led = rw (bs, ts) led

  -- growing is not refused after a list of calls
  pub not_refused : Admitted T → Lawful R → (b : Book) (tb : Table) (sh : List JobSet) (r : Result Report Refusal) → (Fits T b tb → ⊥)
      → AnswersRuns T R b tb sh r
  not_refused ok law b tb sh r bad σ here =
      let fits = ((stories T R ok law).worked σ).fits in
      absurd (bad (rw here at fits))
