-- What the ready jobs of a layer make. A layer is a set of pairs here, as growing reads it from the table.
--
--   In s                  the pairs of the set s
--   Common s x c          c has the facts that every fact of the set x is paired with
--   NeedsReached L a      the needs of job a are reached at L
--   ReadyAt T s j o       job j is present and its needs are reached, and o has it with what is common to
--                         them; or that isn't so, and o has nothing
--   ReadyJobs T s rs      the list rs has a place for each job number, and each place has its job in this way
--   adds_or_keeps x s q   the ready job x adds q; or keeps it: q is of the set s, common to what x needs, and x
--                         doesn't delete it
--   Joins R x y           the rule lets the ready jobs x and y share a round, and what y needs is common to
--                         the needs of x
--   Helps R x q o         o has a ready job that joins x and adds q
--   Beside T R L j a q    q may hold after a round in which job a, number j, is done: the job adds it; or it
--                         is kept; or a job of a higher number that may share the round adds it
--   Made T R L p q        a ready job adds p, and q may hold beside it
use Rattle.std.specs.Prelude.{◌≡◌, ℕ, ◌<◌, ◌≤◌, Bool, true, false, not, ◌&&◌, ◌||◌, ◌⊎◌, List, length, Some, None, Option, slice_index_or, IsSomeAnd, EachIndex, IsTrue, ◌↔◌}
use Rattle.sets.specs.declared.facts.FactSet.{FactSet}
use Rattle.sets.specs.Facts.{has}
use Rattle.strips.specs.declared.job.Job.{Job}
use Rattle.strips.specs.Tasks.{Meaning}
use Rattle.strips.specs.Rules.{Says}
use Rattle.layers.specs.Layers.{Pairs, Reached}
use Rattle.reach.specs.declared.pair_set.PairSet.{PairSet}
use Rattle.reach.specs.declared.ready.Ready.{Ready}
use Rattle.reach.specs.PairSets.{paired}

abbrev pub In : PairSet → Pairs
In s p q = paired s p q ≡ true

abbrev pub Common : PairSet → FactSet → FactSet → Type 0
Common s x c = (q : ℕ) → IsTrue (has c q) ↔ ((q < 128) × ((p : ℕ) → has x p ≡ true → paired s p q ≡ true))

abbrev pub NeedsReached : Pairs → Job → Type 0
NeedsReached L a = Reached L (λ f. has a.needs f ≡ true)

abbrev pub ReadyAt : Meaning → PairSet → ℕ → Option Ready → Type 0
ReadyAt T s j (Some r) = (T.job j ≡ Some r.job) × NeedsReached (In s) r.job × Common s r.job.needs r.common
ReadyAt T s j None = (a : Job) → T.job j ≡ Some a → ¬ NeedsReached (In s) a

pub record ReadyJobs (T : Meaning) (s : PairSet) (rs : List (Option Ready)) : Type 0 where
  pub enough : T.m ≤ length rs
  pub each : EachIndex rs (λ j. ReadyAt T s j (slice_index_or rs j None))

abbrev pub adds_or_keeps : Ready → FactSet → ℕ → Bool
adds_or_keeps x s q = has x.job.adds q || ((has x.common q && has s q) && not (has x.job.deletes q))

pub record Joins (R : Says) (x y : Ready) : Type 0 where
  pub within : (f : ℕ) → has y.job.needs f ≡ true → has x.common f ≡ true
  pub shares : R x.job y.job ≡ true

abbrev pub Helps : Says → Ready → ℕ → Option Ready → Type 0
Helps R x q o = IsSomeAnd o (λ y. Joins R x y × (has y.job.adds q ≡ true))

pub data Beside (T : Meaning) (R : Says) (L : Pairs) (j : ℕ) (a : Job) (q : ℕ) : Type 0 where
  added : has a.adds q ≡ true → Beside T R L j a q
  kept : q < T.n → has a.deletes q ≡ false → Reached L (λ f. (has a.needs f ≡ true) ⊎ (f ≡ q)) → Beside T R L j a q
  joined : (k : ℕ) (b : Job) → j < k → T.job k ≡ Some b → R a b ≡ true → has b.adds q ≡ true
      → Reached L (λ f. (has a.needs f ≡ true) ⊎ (has b.needs f ≡ true)) → Beside T R L j a q

pub record Made (T : Meaning) (R : Says) (L : Pairs) (p q : ℕ) : Type 0 where
  pub number : ℕ
  pub job : Job
  pub is : T.job number ≡ Some job
  pub ready : NeedsReached L job
  pub adds_it : has job.adds p ≡ true
  pub beside : Beside T R L number job q
