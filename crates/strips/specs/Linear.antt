-- The jobs of a plan may come back in any order.
--
--   Linear T rs          there is one state, which holds the goal, such that every free order of the
--                        rounds rs is permitted job by job from the start and ends in that state
--   Numbered m rs        every round of rs names only numbers below m
--   PlansAreLinear       so it is for every plan, of every admitted task, under every lawful rule
--   RoundsHaveOrders     every list of rounds that name finitely many jobs has a free order, so that
--                        the statement above is not empty
use Rattle.std.specs.Prelude.{◌≡◌, ℕ, ◌<◌, true, List, [], ◌∷◌, ⊤}
use Rattle.sets.specs.Facts.{has}
use Rattle.strips.specs.Tasks.{Meaning, Admitted}
use Rattle.strips.specs.Rules.{Says, Lawful}
use Rattle.strips.specs.Rounds.{State, Round, Holds, Plan}
use Rattle.strips.specs.Singly.{Singly, FreeOrder}

abbrev pub Linear : Meaning → List Round → Type 0
Linear T rs = (e : State) × Holds e T.goal × ((js : List ℕ) → FreeOrder rs js → Singly T (has T.start) js e)

abbrev pub Numbered : ℕ → List Round → Type 0
Numbered m [] = ⊤
Numbered m (r ∷ rs) = ((j : ℕ) → r j ≡ true → j < m) × Numbered m rs

abbrev pub PlansAreLinear : Type 0
PlansAreLinear =
    (T : Meaning) (R : Says) → Admitted T → Lawful R → (rs : List Round) → Plan T R rs → Linear T rs

abbrev pub RoundsHaveOrders : Type 0
RoundsHaveOrders = (m : ℕ) (rs : List Round) → Numbered m rs → (js : List ℕ) × FreeOrder rs js
