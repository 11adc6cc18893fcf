-- What is answered of a sheet.
--
--   TrueOf T R d               what is told of the distance is so: a number is the distance, none means that no layer
--                              reaches the goal, and `at least` is never told
--   Answer T R rs rep          the report rep answers to the rounds rs: what it says of them, of the distance and of
--                              plans is so
--   AnswersRuns T R b tb sh r  what is answered where a list of calls after an accepted opening has led to the book b,
--                              the table tb and the sheet sh: the report that answers to the rounds that the list gives
--   Led T R b tb sh rs         a list of calls after an accepted opening leads to the book b, the table tb and the sheet
--                              sh, and gives the rounds rs
--   GrownOn T R b tb sh b' tb' where a list of calls has led to b, tb and sh, one leads to b', tb' and sh that gives
--                              the same rounds
use Rattle.std.specs.Prelude.{◌≡◌, ℕ, ◌≤◌, List, length, Result, IsOkAnd}
use Rattle.sets.specs.declared.jobs.JobSet.{JobSet}
use Rattle.strips.specs.Tasks.{Meaning}
use Rattle.strips.specs.Rules.{Says}
use Rattle.strips.specs.Rounds.{Round, Plan}
use Rattle.verdicts.specs.Sheets.{VerdictOn}
use Rattle.layers.specs.Layers.{GoalAt, Distance as IsDistance}
use Rattle.reach.specs.Tables.{Table}
use Rattle.planning.specs.declared.book.Book.{Book}
use Rattle.planning.specs.declared.refusal.Refusal.{Refusal}
use Rattle.planning.specs.declared.report.Distance.{Distance}
use Rattle.planning.specs.declared.report.Report.{Report}
use Rattle.planning.specs.Reports.{ToldAs, Excess, Shortest}
use Rattle.planning.specs.Runs.{Story, sheet_of}
use Rattle.planning.specs.Main.{Bounds}

abbrev pub TrueOf : Meaning → Says → Distance → Type 0
TrueOf T R d = ToldAs d (IsDistance T R) ((t : ℕ) → ¬ GoalAt T R t) (λ k. ⊥)

pub record Answer (T : Meaning) (R : Says) (rs : List Round) (rep : Report) : Type 0 where
  pub rounds : rep.rounds ≡ length rs
  pub distance : TrueOf T R rep.distance
  pub bounds : Bounds T R rep.distance
  pub verdict : VerdictOn T R rs rep.verdict
  pub excess : Excess (length rs) rep.distance rep.excess
  pub shortest : Shortest rep → (others : List Round) → Plan T R others → length rs ≤ length others

abbrev pub AnswersRuns : Meaning → Says → Book → Table → List JobSet → Result Report Refusal → Type 0
AnswersRuns T R b tb sh r =
    (σ : Story T R) → σ.last ≡ record { book = b; table = tb; sheet = sh }
    → IsOkAnd r (Answer T R (sheet_of T.m (length σ.first.sheet) σ.calls))

abbrev pub Led : Meaning → Says → Book → Table → List JobSet → List Round → Type 0
Led T R b tb sh rs =
    (σ : Story T R) × (σ.last ≡ record { book = b; table = tb; sheet = sh }) × (sheet_of T.m (length σ.first.sheet) σ.calls ≡ rs)

abbrev pub GrownOn : Meaning → Says → Book → Table → List JobSet → Book → Table → Type 0
GrownOn T R b tb sh b' tb' = (rs : List Round) → Led T R b tb sh rs → Led T R b' tb' sh rs
