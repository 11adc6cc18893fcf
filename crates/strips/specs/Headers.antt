-- What becomes of four values that are to be a header.
--
--   Limits n           n is from 1 to 128
--   Stray n s          a fact of the set s that is not below n
--   told e             the two numbers of the refusal that the fault e stands for: 4 for the number of facts, 5 for a
--                      fact that the task doesn't have, both at place 0
--   Headed n m s g r   r is the header of these four; or the first thing that is wrong with them: the
--                      number of facts, else the lowest stray fact of the start, else of the goal
--   text e             how the fault e reads
use Rattle.std.specs.Prelude.{◌≡◌, ℕ, ◌≤◌, true, List, ◌++◌, Ok, Err, Result, codes, decimal}
use Rattle.sets.specs.declared.facts.FactSet.{FactSet}
use Rattle.sets.specs.Facts.{has}
use Rattle.sets.specs.Search.{Lowest}
use Rattle.strips.specs.declared.header.Header.{Header}
use Rattle.strips.specs.declared.header.fault.HeaderFault.{HeaderFault}
use Rattle.strips.specs.declared.header.fault.HeaderFault.TheVariants.{FactCount, StartFact, GoalFact}
use Rattle.strips.specs.Tasks.{Below}

abbrev pub Limits : ℕ → Type 0
Limits n = (1 ≤ n) × (n ≤ 128)

abbrev pub Stray : ℕ → FactSet → ℕ → Type 0
Stray n s f = (has s f ≡ true) × (n ≤ f)

abbrev pub told : HeaderFault → ℕ × ℕ
told FactCount = (4, 0)
told (StartFact f) = (5, 0)
told (GoalFact f) = (5, 0)

abbrev pub Headed : ℕ → ℕ → FactSet → FactSet → Result Header HeaderFault → Type 0
Headed n m s g (Ok h) =
    Limits n × Below n s × Below n g × (h.n ≡ n) × (h.m ≡ m) × (h.start ≡ s) × (h.goal ≡ g)
Headed n m s g (Err FactCount) = (told FactCount ≡ (4, 0)) × (¬ Limits n)
Headed n m s g (Err (StartFact f)) = (told (StartFact f) ≡ (5, 0)) × Limits n × Lowest (Stray n s) f
Headed n m s g (Err (GoalFact f)) = (told (GoalFact f) ≡ (5, 0)) × Limits n × Below n s × Lowest (Stray n g) f

abbrev pub text : HeaderFault → List ℕ
text FactCount = codes "the number of facts is not from 1 to 128"
text (StartFact f) = codes "the task has no start fact " ++ decimal f
text (GoalFact f) = codes "the task has no goal fact " ++ decimal f
