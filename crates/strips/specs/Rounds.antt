-- Rounds and plans.
--
--   State, Round       a set of facts, or of job numbers, by its membership test
--   Holds s x          the state s holds every fact of the set x
--   round_of m p       the round at the sheet place p of a task of m jobs: numbers from m up don't count
--   Allowed T R s r    round r is allowed in state s: all its jobs are present, the rule says yes for
--                      every two different ones, and the state holds all their needs
--   in_part part o f   the job o, if it is present, has fact f in that part
--   some_job T part r  the facts that some present job of round r has in that part
--   result T s r       the state after round r: with all adds, then without all deletes
--   PlanFrom T R s rs  the rounds rs, a list of any length, are each allowed in turn from the state s,
--                      and the last state holds the goal
--   Plan T R rs        so it is from the start
use Rattle.std.specs.Prelude.{◌≡◌, ℕ, Bool, true, false, not, ◌&&◌, ◌||◌, ◌≢◌, List, [], ◌∷◌, Some, None, Option, nat_lt}
use Rattle.sets.specs.declared.facts.FactSet.{FactSet}
use Rattle.sets.specs.declared.jobs.JobSet.{JobSet}
use Rattle.sets.specs.Facts.{has}
use Rattle.sets.specs.Jobs.{includes}
use Rattle.sets.specs.Search.{any}
use Rattle.strips.specs.declared.job.Job.{Job}
use Rattle.strips.specs.Tasks.{Meaning}
use Rattle.strips.specs.Rules.{Says}

abbrev pub State : Type 0
State = ℕ → Bool

abbrev pub Round : Type 0
Round = ℕ → Bool

abbrev pub Holds : State → FactSet → Type 0
Holds s x = (f : ℕ) → has x f ≡ true → s f ≡ true

abbrev pub round_of : ℕ → JobSet → Round
round_of m p j = nat_lt j m && includes p j

pub record Allowed (T : Meaning) (R : Says) (s : State) (r : Round) : Type 0 where
  pub present : (j : ℕ) → r j ≡ true → (a : Job) × (T.job j ≡ Some a)
  pub shared : (j k : ℕ) (a b : Job) → r j ≡ true → r k ≡ true → j ≢ k → T.job j ≡ Some a → T.job k ≡ Some b → R a b ≡ true
  pub held : (j : ℕ) (a : Job) → r j ≡ true → T.job j ≡ Some a → Holds s a.needs

abbrev pub in_part : (Job → FactSet) → Option Job → ℕ → Bool
in_part part (Some a) f = has (part a) f
in_part part None f = false

unfoldable pub some_job : Meaning → (Job → FactSet) → Round → ℕ → Bool
some_job T part r f = any T.m (λ j. r j && in_part part (T.job j) f)

abbrev pub result : Meaning → State → Round → State
result T s r f = (s f || some_job T (λ a. a.adds) r f) && not (some_job T (λ a. a.deletes) r f)

abbrev pub PlanFrom : Meaning → Says → State → List Round → Type 0
PlanFrom T R s [] = Holds s T.goal
PlanFrom T R s (r ∷ rs) = Allowed T R s r × PlanFrom T R (result T s r) rs

abbrev pub Plan : Meaning → Says → List Round → Type 0
Plan T R rs = PlanFrom T R (has T.start) rs
