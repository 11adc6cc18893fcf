-- Layers: which pairs of facts may hold together after so many rounds. The field calls it
-- 2-reachability, and the first layer that reaches the goal the heuristic h².
--
--   Pairs              a set of pairs of facts
--   Reached L S        the set S of facts is reached at L: each pair within it is in L, {p} too
--   Maker              what makes a fact hold after a round: a job by its number, or the keeping of a fact
--   IsMaker T x        the job is present; the fact is one of the task's
--   Needs x, Adds x    what a maker needs and adds; the keeping of q needs q and adds q
--   Together R x y     two makers go together: two different jobs if the rule says yes, a job and the
--                      keeping of q if the job doesn't delete q, two keepings always
--   Enters T R L p q   {p, q} enters behind the layer L: one job adds both facts and its needs are
--                      reached; or two makers that go together add two facts between them, and their
--                      joint needs are reached
--   Layer T R t        layer 0 holds the pairs within the start; each next holds the one before it and
--                      what enters behind that
--   First T R p q t    t is the first layer with {p, q}
--   GoalAt T R t       the goal is reached at layer t
--   Distance T R d     d is the first layer at which the goal is reached
--   Stable T R t       layer t equals its next
use Rattle.std.specs.Prelude.{◌≡◌, ℕ, zero, suc, ◌<◌, true, false, ◌≢◌, ◌⊎◌, Some, ⊤}
use Rattle.sets.specs.Facts.{has}
use Rattle.sets.specs.Search.{Lowest}
use Rattle.strips.specs.declared.job.Job.{Job}
use Rattle.strips.specs.Tasks.{Meaning}
use Rattle.strips.specs.Rules.{Says}

abbrev pub Pairs : Type 1
Pairs = ℕ → ℕ → Type 0

abbrev pub Reached : Pairs → (ℕ → Type 0) → Type 0
Reached L S = (p q : ℕ) → S p → S q → L p q

pub data Maker : Type 0 where
  doing : ℕ → Job → Maker
  keeping : ℕ → Maker

abbrev pub IsMaker : Meaning → Maker → Type 0
IsMaker T (doing j a) = T.job j ≡ Some a
IsMaker T (keeping q) = q < T.n

abbrev pub Needs : Maker → ℕ → Type 0
Needs (doing j a) f = has a.needs f ≡ true
Needs (keeping q) f = f ≡ q

abbrev pub Adds : Maker → ℕ → Type 0
Adds (doing j a) f = has a.adds f ≡ true
Adds (keeping q) f = f ≡ q

abbrev pub Together : Says → Maker → Maker → Type 0
Together R (doing j a) (doing k b) = (j ≢ k) × (R a b ≡ true)
Together R (doing j a) (keeping q) = has a.deletes q ≡ false
Together R (keeping q) (doing k b) = has b.deletes q ≡ false
Together R (keeping p) (keeping q) = ⊤

pub data Enters (T : Meaning) (R : Says) (L : Pairs) (p q : ℕ) : Type 0 where
  by_one : (j : ℕ) (a : Job) → T.job j ≡ Some a
      → has a.adds p ≡ true → has a.adds q ≡ true
      → Reached L (λ f. has a.needs f ≡ true) → Enters T R L p q
  by_two : (x y : Maker) → IsMaker T x → IsMaker T y → Together R x y → p ≢ q
      → Adds x p ⊎ Adds y p → Adds x q ⊎ Adds y q
      → Reached L (λ f. Needs x f ⊎ Needs y f) → Enters T R L p q

abbrev pub Layer : Meaning → Says → ℕ → Pairs
Layer T R zero p q = (has T.start p ≡ true) × (has T.start q ≡ true)
Layer T R (suc t) p q = Layer T R t p q ⊎ Enters T R (Layer T R t) p q

abbrev pub First : Meaning → Says → ℕ → ℕ → ℕ → Type 0
First T R p q = Lowest (λ t. Layer T R t p q)

abbrev pub GoalAt : Meaning → Says → ℕ → Type 0
GoalAt T R t = Reached (Layer T R t) (λ f. has T.goal f ≡ true)

abbrev pub Distance : Meaning → Says → ℕ → Type 0
Distance T R = Lowest (GoalAt T R)

abbrev pub Stable : Meaning → Says → ℕ → Type 0
Stable T R t = (p q : ℕ) → Layer T R (suc t) p q → Layer T R t p q
