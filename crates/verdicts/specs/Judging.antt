-- The first fault of a list of rounds.
--
--   Absent T r j          job j of round r is absent
--   Partner T R r j a k   job k of round r is above j, and the rule doesn't let job a share with it
--   Joined T r To j k     job j of round r is present, and To joins it to k
--   Clashing T R r j k    jobs j and k of round r, the first lower, may not share it
--   Lacks s x f           fact f of the set x is not in the state s
--   Lacking T s r j f     job j of round r needs fact f, which the state s lacks
--   Fault T R s i r v     v is the fault of round r, number i, in the state s: the checks in their order
--   Ended T s v           v is what is left to say in the last state s
--   JudgedFrom T R s i rs v    v is the first fault of the rounds rs, the first of them number i, from the state s on
--   Judged T R rs v       v is the first fault of the rounds rs, or sound
use Rattle.std.specs.Prelude.{◌≡◌, ℕ, ◌+◌, ◌<◌, true, false, ◌⊎◌, List, [], ◌∷◌, Some, None, codes}
use Rattle.sets.specs.declared.facts.FactSet.{FactSet}
use Rattle.sets.specs.Facts.{has}
use Rattle.sets.specs.Search.{Lowest}
use Rattle.strips.specs.declared.job.Job.{Job}
use Rattle.strips.specs.Tasks.{Meaning}
use Rattle.strips.specs.Rules.{Says}
use Rattle.strips.specs.Rounds.{State, Round, Holds, Allowed, result}
use Rattle.verdicts.specs.declared.verdict.Verdict.{Verdict}
use Rattle.verdicts.specs.Verdicts.{told, IsSound}

abbrev pub Absent : Meaning → Round → ℕ → Type 0
Absent T r j = (r j ≡ true) × (T.job j ≡ None)

abbrev pub Partner : Meaning → Says → Round → ℕ → Job → ℕ → Type 0
Partner T R r j a k = (j < k) × (r k ≡ true) × ((b : Job) × (T.job k ≡ Some b) × (R a b ≡ false))

abbrev pub Joined : Meaning → Round → (ℕ → Job → ℕ → Type 0) → ℕ → ℕ → Type 0
Joined T r To j k = (r j ≡ true) × ((a : Job) × (T.job j ≡ Some a) × To j a k)

abbrev pub Clashing : Meaning → Says → Round → ℕ → ℕ → Type 0
Clashing T R r = Joined T r (Partner T R r)

abbrev pub Lacks : State → FactSet → ℕ → Type 0
Lacks s x f = (has x f ≡ true) × (s f ≡ false)

abbrev pub Lacking : Meaning → State → Round → ℕ → ℕ → Type 0
Lacking T s r = Joined T r (λ j a. Lacks s a.needs)

pub data Fault (T : Meaning) (R : Says) (s : State) (i : ℕ) (r : Round) (v : Verdict) : Type 0 where
  closed : (j : ℕ) → Lowest (Absent T r) j
      → told v ≡ (codes "closed", i ∷ j ∷ []) → Fault T R s i r v
  clash : (j k : ℕ) → ((h : ℕ) → ¬ Absent T r h)
      → Lowest (λ h. (l : ℕ) × Clashing T R r h l) j → Lowest (Clashing T R r j) k
      → told v ≡ (codes "clash", i ∷ j ∷ k ∷ []) → Fault T R s i r v
  missing : (j f : ℕ) → ((h : ℕ) → ¬ Absent T r h) → ((h l : ℕ) → ¬ Clashing T R r h l)
      → Lowest (λ h. (g : ℕ) × Lacking T s r h g) j → Lowest (Lacking T s r j) f
      → told v ≡ (codes "missing", i ∷ j ∷ f ∷ []) → Fault T R s i r v

pub data Ended (T : Meaning) (s : State) (v : Verdict) : Type 0 where
  goal : (f : ℕ) → Lowest (Lacks s T.goal) f
      → told v ≡ (codes "goal", f ∷ []) → Ended T s v
  sound : Holds s T.goal → IsSound v → Ended T s v

abbrev pub JudgedFrom : Meaning → Says → State → ℕ → List Round → Verdict → Type 0
JudgedFrom T R s i [] v = Ended T s v
JudgedFrom T R s i (r ∷ rs) v = Fault T R s i r v ⊎ (Allowed T R s r × JudgedFrom T R (result T s r) (i + 1) rs v)

abbrev pub Judged : Meaning → Says → List Round → Verdict → Type 0
Judged T R rs v = JudgedFrom T R (has T.start) 0 rs v
