-- What layers say of plans, and that they come to an end.
--
--   PlansReach        a plan of r rounds reaches the goal at layer r, so that no plan has fewer rounds
--                     than the distance
--   Settles T R L     layer L is the first that equals its next, one of the first n(n+1)/2 + 1; every
--                     pair of any layer is in it, so that there is no plan where it doesn't reach the goal
--   LayersSettle      every task has such a layer, under every rule
use Rattle.std.specs.Prelude.{ℕ, ◌≤◌, List, length}
use Rattle.sets.specs.Search.{Lowest}
use Rattle.strips.specs.Tasks.{Meaning, Admitted}
use Rattle.strips.specs.Rules.{Says}
use Rattle.strips.specs.Rounds.{Round, Plan}
use Rattle.layers.specs.Pairs.{pair_count}
use Rattle.layers.specs.Layers.{Layer, GoalAt, Stable}

abbrev pub PlansReach : Type 0
PlansReach = (T : Meaning) (R : Says) → Admitted T → (rs : List Round) → Plan T R rs → GoalAt T R (length rs)

pub record Settles (T : Meaning) (R : Says) (L : ℕ) : Type 0 where
  pub first : Lowest (Stable T R) L
  pub soon : L ≤ pair_count T.n
  pub all : (t p q : ℕ) → Layer T R t p q → Layer T R L p q

abbrev pub LayersSettle : Type 0
LayersSettle = (T : Meaning) (R : Says) → Admitted T → (L : ℕ) × Settles T R L
