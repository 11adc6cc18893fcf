-- What the searches of one round answer, for the round at a sheet place.
--
--   FirstAbsent        its lowest absent job, if any
--   FirstPartner       the lowest job above a given one that may not share the round with it, if any
--   FirstJoined        its lowest present job that is answered with a number, and that number, if any is
--   FirstClash         its lowest job that may not share it with one above, and the lowest such one
--   FirstLacking       its lowest job short of a need, and the lowest fact that it lacks
--   FirstFault         the fault of the round; none where the round is allowed
use Rattle.std.specs.Prelude.{◌≡◌, ℕ, ◌<◌, true, IfSome, Some, None, Option}
use Rattle.sets.specs.declared.jobs.JobSet.{JobSet}
use Rattle.sets.specs.Search.{Finds, FindsPair}
use Rattle.strips.specs.declared.job.Job.{Job}
use Rattle.strips.specs.Tasks.{Meaning}
use Rattle.strips.specs.Rules.{Says}
use Rattle.strips.specs.Rounds.{State, round_of, Allowed}
use Rattle.verdicts.specs.declared.verdict.Verdict.{Verdict}
use Rattle.verdicts.specs.Judging.{Absent, Partner, Joined, Clashing, Lacking, Fault}

abbrev pub FirstAbsent : Meaning → JobSet → Option ℕ → Type 0
FirstAbsent T p = Finds (Absent T (round_of T.m p))

abbrev pub FirstPartner : Meaning → Says → JobSet → ℕ → Job → Option ℕ → Type 0
FirstPartner T R p j a = Finds (Partner T R (round_of T.m p) j a)

-- `Gives j a o` says that o may be what is answered for job a, numbered j
pub record FirstJoined (T : Meaning) (p : JobSet) (Gives : ℕ → Job → Option ℕ → Type 0) (r : Option (ℕ × ℕ)) : Type 0 where
  pub joined : IfSome r (λ y. Joined T (round_of T.m p) (λ j a k. Gives j a (Some k)) y.0 y.1)
  pub first : (i : ℕ) → IfSome r (λ y. i < y.0) → (a : Job) → round_of T.m p i ≡ true → T.job i ≡ Some a → Gives i a None

abbrev pub FirstClash : Meaning → Says → JobSet → Option (ℕ × ℕ) → Type 0
FirstClash T R p = FindsPair (Clashing T R (round_of T.m p))

abbrev pub FirstLacking : Meaning → State → JobSet → Option (ℕ × ℕ) → Type 0
FirstLacking T s p = FindsPair (Lacking T s (round_of T.m p))

abbrev pub FirstFault : Meaning → Says → State → ℕ → JobSet → Option Verdict → Type 0
FirstFault T R s i p None = Allowed T R s (round_of T.m p)
FirstFault T R s i p (Some v) = Fault T R s i (round_of T.m p) v
