-- Tasks by their answers.
--
--   Meaning        the answers to the five questions: how many facts, how many job numbers, the start
--                  state, the goal, and which job a number stands for, if any
--   Below n s      every fact of the set s is below n
--   Fair n a       the facts that job a names are below n, and none of them is both added and deleted
--   Admitted T     what every implementation shows of its meaning
use Rattle.std.specs.Prelude.{◌≡◌, ℕ, ◌<◌, ◌≤◌, true, false, Some, None, Option}
use Rattle.sets.specs.declared.facts.FactSet.{FactSet}
use Rattle.sets.specs.Facts.{has}
use Rattle.strips.specs.declared.job.Job.{Job}

pub record Meaning : Type 0 where
  pub n : ℕ
  pub m : ℕ
  pub start : FactSet
  pub goal : FactSet
  pub job : ℕ → Option Job

abbrev pub Below : ℕ → FactSet → Type 0
Below n s = (f : ℕ) → has s f ≡ true → f < n

pub record Fair (n : ℕ) (a : Job) : Type 0 where
  pub needs : Below n a.needs
  pub adds : Below n a.adds
  pub deletes : Below n a.deletes
  pub not_both : (f : ℕ) → has a.adds f ≡ true → has a.deletes f ≡ false

pub record Admitted (T : Meaning) : Type 0 where
  pub some_fact : 1 ≤ T.n
  pub few_facts : T.n ≤ 128
  pub few_jobs : T.m ≤ 255
  pub start : Below T.n T.start
  pub goal : Below T.n T.goal
  pub fair : (j : ℕ) (a : Job) → T.job j ≡ Some a → Fair T.n a
  pub absent : (j : ℕ) → T.m ≤ j → T.job j ≡ None
