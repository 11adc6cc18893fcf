-- Jobs done singly, and the orders in which the jobs of a sheet may come back.
--
--   done a s           the state s after job a alone: its deletes go first, then its adds come
--   Singly T s js e    the jobs js are done one by one from the state s, each permitted when its turn
--                      comes (present, and the state holds its needs), and e is the state at the end
--   Among j js         the number j is one of js
--   Once js            no number comes twice
--   OrderOf r js       js has each job of round r once, in some order
--   FreeOrder rs js    js goes round by round and takes each job of a round once, in any order inside
--                      the round
use Rattle.std.specs.Prelude.{◌≡◌, ℕ, true, not, ◌&&◌, ◌||◌, ◌⊎◌, List, [], ◌∷◌, ◌++◌, Some, ⊤}
use Rattle.sets.specs.Facts.{has}
use Rattle.strips.specs.declared.job.Job.{Job}
use Rattle.strips.specs.Tasks.{Meaning}
use Rattle.strips.specs.Rounds.{State, Round, Holds}

abbrev pub done : Job → State → State
done a s f = (s f && not (has a.deletes f)) || has a.adds f

abbrev pub Singly : Meaning → State → List ℕ → State → Type 0
Singly T s [] e = s ≡ e
Singly T s (j ∷ js) e = (a : Job) × (T.job j ≡ Some a) × Holds s a.needs × Singly T (done a s) js e

abbrev pub Among : ℕ → List ℕ → Type 0
Among j [] = ⊥
Among j (k ∷ ks) = (j ≡ k) ⊎ Among j ks

abbrev pub Once : List ℕ → Type 0
Once [] = ⊤
Once (j ∷ js) = (¬ Among j js) × Once js

pub record OrderOf (r : Round) (js : List ℕ) : Type 0 where
  pub once : Once js
  pub each : (j : ℕ) → r j ≡ true → Among j js
  pub only : (j : ℕ) → Among j js → r j ≡ true

abbrev pub FreeOrder : List Round → List ℕ → Type 0
FreeOrder [] js = js ≡ []
FreeOrder (r ∷ rs) js = (ks : List ℕ) × (ls : List ℕ) × OrderOf r ks × FreeOrder rs ls × (js ≡ ks ++ ls)
