-- Walks to the end: all members come, each once, rising.
--
--   Walked step w xs           from the walk w the steps give the numbers xs, one each, and then none
--   Lists xs P                 each of the numbers xs is below the next, so that none is there twice, and
--                              they are just the numbers of which P holds
--   FactsWalked s fs           a walk over the set of facts s gives the facts fs, and then none
--   MembersWalked s i n js     a walk over the job set s from i up and below n gives the jobs js, and then none
--   WalksListFacts             whatever facts a walk gives, they list the facts of the set
--   WalksListMembers           whatever jobs a walk gives, they list the members of the set from i up and below n
--   FactWalksEnd               every set of facts has such a walk, so that the statement on facts is not empty
--   MemberWalksEnd             and so has every job set, from every number up and below every number
use Rattle.std.specs.Prelude.{◌≡◌, ℕ, ◌<◌, ◌≤◌, true, ◌↔◌, List, [], ◌∷◌, Some, None, Option}
use Rattle.std.specs.List.Sorted.{IsStrictlyIncreasing}
use Rattle.sets.specs.declared.facts.FactSet.{FactSet}
use Rattle.sets.specs.declared.jobs.JobSet.{JobSet}
use Rattle.sets.specs.Facts.{has}
use Rattle.sets.specs.Jobs.{includes}
use Rattle.sets.specs.Members.{Rises}
use Rattle.sets.specs.Search.{listed}
use Rattle.sets.specs.Walk.{Takes}

abbrev pub Walked : {S : Type 0} → (S → Option ℕ → S → Type 0) → S → List ℕ → Type 0
Walked {S} step w [] = (u : S) × step w None u
Walked {S} step w (x ∷ xs) = (u : S) × step w (Some x) u × Walked step u xs

abbrev pub Lists : List ℕ → (ℕ → Type 0) → Type 0
Lists xs P = IsStrictlyIncreasing xs × ((k : ℕ) → (listed xs k ≡ true) ↔ P k)

abbrev pub FactsWalked : FactSet → List ℕ → Type 0
FactsWalked s fs = Walked Takes (record { left = s }) fs

abbrev pub MembersWalked : JobSet → ℕ → ℕ → List ℕ → Type 0
MembersWalked s i n js = Walked Rises (record { set = s; from = i; end = n }) js

abbrev pub WalksListFacts : Type 0
WalksListFacts = (s : FactSet) (fs : List ℕ) → FactsWalked s fs → Lists fs (λ f. has s f ≡ true)

abbrev pub WalksListMembers : Type 0
WalksListMembers =
    (s : JobSet) (i n : ℕ) (js : List ℕ) → MembersWalked s i n js
    → Lists js (λ j. (i ≤ j) × (j < n) × (includes s j ≡ true))

abbrev pub FactWalksEnd : Type 0
FactWalksEnd = (s : FactSet) → (fs : List ℕ) × FactsWalked s fs

abbrev pub MemberWalksEnd : Type 0
MemberWalksEnd = (s : JobSet) (i n : ℕ) → (js : List ℕ) × MembersWalked s i n js
