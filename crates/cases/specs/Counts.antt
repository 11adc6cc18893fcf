-- Small counts, by their meanings.
--
--   powers xs               the number whose binary digits xs are set, where all are different
--   facts xs                the set of these facts, all different and below 64
--   act needs adds deletes  the job with these facts and no zone
--   counting n s g jobs     the task of n facts with start s, goal g and these jobs, numbered from 0
--   lift_jobs, lift         a lift fetches a pallet from another floor: its jobs, and the task
--   lift_without_3          the same, with job 3 withheld
--   lift_from_1_4           the same, started at facts 1 and 4
--   twin_jobs, twin         two jobs that have nothing to do with each other, and the task of them
--   row needs adds deletes  the row with these facts and no zone
--   called_rows, called_lift    the lift, called to a floor wherever it stands: its rows, of which two delete a fact that
--                           they add, and the task of their jobs
--   sheet js                the rounds of these lists of job numbers
use Rattle.std.specs.Prelude.{ℕ, ◌+◌, ◌^◌, List, [], ◌∷◌, map, length}
use Rattle.std.specs.List.{slice_get}
use Rattle.sets.specs.declared.facts.FactSet.{FactSet}
use Rattle.sets.specs.Search.{listed}
use Rattle.strips.specs.declared.job.Job.{Job}
use Rattle.strips.specs.declared.row.Row.{Row}
use Rattle.strips.specs.Layering.{withheld, moved}
use Rattle.strips.specs.Loading.{job_of}
use Rattle.strips.specs.Rounds.{Round}
use Rattle.strips.specs.Tasks.{Meaning}

abbrev pub powers : List ℕ → ℕ
powers [] = 0
powers (x ∷ xs) = 2 ^ x + powers xs

abbrev pub facts : List ℕ → FactSet
facts xs = record { low = powers xs; high = 0 }

abbrev pub act : List ℕ → List ℕ → List ℕ → Job
act needs adds deletes = record { zone = 0; needs = facts needs; adds = facts adds; deletes = facts deletes }

abbrev pub counting : ℕ → List ℕ → List ℕ → List Job → Meaning
counting n s g jobs = record { n = n; m = length jobs; start = facts s; goal = facts g; job = slice_get jobs }

abbrev pub lift_jobs : List Job
lift_jobs =
    act (0 ∷ 2 ∷ []) (3 ∷ []) (2 ∷ [])
    ∷ act (0 ∷ []) (1 ∷ []) (0 ∷ [])
    ∷ act (1 ∷ 3 ∷ []) (4 ∷ []) (3 ∷ [])
    ∷ act (1 ∷ []) (0 ∷ []) (1 ∷ [])
    ∷ []

abbrev pub lift : Meaning
lift = counting 5 (0 ∷ 2 ∷ []) (0 ∷ 4 ∷ []) lift_jobs

abbrev pub lift_without_3 : Meaning
lift_without_3 = withheld (record { words = 2 ^ 3 ∷ 0 ∷ 0 ∷ 0 ∷ [] }) lift

abbrev pub lift_from_1_4 : Meaning
lift_from_1_4 = moved (facts (1 ∷ 4 ∷ [])) lift

abbrev pub twin_jobs : List Job
twin_jobs = act (0 ∷ []) (1 ∷ []) (0 ∷ []) ∷ act (2 ∷ []) (3 ∷ []) (2 ∷ []) ∷ []

abbrev pub twin : Meaning
twin = counting 4 (0 ∷ 2 ∷ []) (1 ∷ 3 ∷ []) twin_jobs

abbrev pub row : List ℕ → List ℕ → List ℕ → Row
row needs adds deletes = record { zone = 0; needs = facts needs; adds = facts adds; deletes = facts deletes }

abbrev pub called_rows : List Row
called_rows =
    row (0 ∷ 2 ∷ []) (3 ∷ []) (2 ∷ [])
    ∷ row [] (1 ∷ []) (0 ∷ 1 ∷ [])
    ∷ row (1 ∷ 3 ∷ []) (4 ∷ []) (3 ∷ [])
    ∷ row [] (0 ∷ []) (0 ∷ 1 ∷ [])
    ∷ []

abbrev pub called_lift : Meaning
called_lift = counting 5 (0 ∷ 2 ∷ []) (0 ∷ 4 ∷ []) (map (job_of 5) called_rows)

abbrev pub sheet : List (List ℕ) → List Round
sheet js = map listed js
