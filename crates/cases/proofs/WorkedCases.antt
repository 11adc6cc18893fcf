-- The worked cases, by computing.
use Rattle.std.proofs.Common.{◌≡◌, ℕ, ◌≤◌, true, [], ◌∷◌, map, refl, inl, inr, lit≤}
use Rattle.strips.specs.Admits.{withheld_admitted, moved_admitted}
use Rattle.strips.specs.Jobs.{spoils, interferes}
use Rattle.strips.specs.Loading.{job_of}
use Rattle.strips.specs.Rounds.{some_job}
use Rattle.strips.specs.Rules.{apart, single_file}
use Rattle.strips.specs.Tasks.{Admitted}
use Rattle.strips.specs.JobLaws.{apart_lawful, single_file_lawful}
use Rattle.sets.specs.Digits.{bit, word}
use Rattle.sets.specs.Facts.{has, set_of}
use Rattle.sets.specs.Jobs.{includes}
use Rattle.sets.specs.Search.{any, listed}
use Rattle.layers.specs.Bounds.{Settles}
use Rattle.layers.specs.Pairs.{pair_count, entry_number}
use Rattle.reach.specs.Tables.{Table}
use Rattle.planning.specs.declared.report.Distance.TheVariants.{Told, NoPlan, AtLeast}
use Rattle.verdicts.specs.declared.verdict.Verdict.TheVariants.{Closed, Clash, Missing, Goal, Sound}
use Rattle.verdicts.specs.Judging.{Judged}
use Rattle.planning.specs.Reports.{number, none, at_least}
use Rattle.cases.specs.Counts.{lift_jobs, lift, lift_without_3, lift_from_1_4, twin_jobs, twin, called_rows, called_lift, sheet}
use Rattle.cases.specs.WorkedCases.{After, SettledAfter, Entry, WorkedCases}
use Rattle.cases.proofs.Tests.{admitted_is}
use Rattle.cases.proofs.Tables.{settles?, settles, distance, not_reached, first_at, never_at}
use Rattle.cases.proofs.Sheets.{verdict_is}

lift_admitted : Admitted lift
unfolding has bit
lift_admitted = admitted_is 5 (0 ∷ 2 ∷ []) (0 ∷ 4 ∷ []) lift_jobs (lit≤ tt) (lit≤ tt) (lit≤ tt) refl

twin_admitted : Admitted twin
unfolding has bit
twin_admitted = admitted_is 4 (0 ∷ 2 ∷ []) (1 ∷ 3 ∷ []) twin_jobs (lit≤ tt) (lit≤ tt) (lit≤ tt) refl

called_admitted : Admitted called_lift
unfolding has bit set_of word
called_admitted = admitted_is 5 (0 ∷ 2 ∷ []) (0 ∷ 4 ∷ []) (map (job_of 5) called_rows) (lit≤ tt) (lit≤ tt) (lit≤ tt) refl

without_3_admitted : Admitted lift_without_3
without_3_admitted = withheld_admitted _ lift lift_admitted

from_1_4_admitted : Admitted lift_from_1_4
from_1_4_admitted = moved_admitted _ lift lift_admitted

-- the tables when settled, and the layers that they settle at
abbrev lift_table : Table
lift_table = 0 ∷ 65535 ∷ 1 ∷ 0 ∷ 1 ∷ 0 ∷ 1 ∷ 2 ∷ 65535 ∷ 1 ∷ 4 ∷ 3 ∷ 65535 ∷ 65535 ∷ 3 ∷ []

abbrev without_3_table : Table
without_3_table = 0 ∷ 65535 ∷ 1 ∷ 0 ∷ 1 ∷ 0 ∷ 1 ∷ 2 ∷ 65535 ∷ 1 ∷ 65535 ∷ 3 ∷ 65535 ∷ 65535 ∷ 3 ∷ []

abbrev from_1_4_table : Table
from_1_4_table = 1 ∷ 65535 ∷ 0 ∷ 65535 ∷ 65535 ∷ 65535 ∷ 65535 ∷ 65535 ∷ 65535 ∷ 65535 ∷ 1 ∷ 0 ∷ 65535 ∷ 65535 ∷ 0 ∷ []

abbrev twin_table : Table
twin_table = 0 ∷ 65535 ∷ 1 ∷ 0 ∷ 1 ∷ 0 ∷ 1 ∷ 1 ∷ 65535 ∷ 1 ∷ []

abbrev twin_single_table : Table
twin_single_table = 0 ∷ 65535 ∷ 1 ∷ 0 ∷ 1 ∷ 0 ∷ 1 ∷ 2 ∷ 65535 ∷ 1 ∷ []

abbrev called_table : Table
called_table = 0 ∷ 65535 ∷ 1 ∷ 0 ∷ 1 ∷ 0 ∷ 1 ∷ 2 ∷ 65535 ∷ 1 ∷ 4 ∷ 3 ∷ 65535 ∷ 65535 ∷ 3 ∷ []

lift_tested : settles? lift apart lift_table 4 ≡ true
unfolding has bit any spoils interferes entry_number pair_count
lift_tested = refl

without_3_tested : settles? lift_without_3 apart without_3_table 3 ≡ true
unfolding has bit any spoils interferes entry_number pair_count includes
without_3_tested = refl

from_1_4_tested : settles? lift_from_1_4 apart from_1_4_table 1 ≡ true
unfolding has bit any spoils interferes entry_number pair_count set_of word
from_1_4_tested = refl

twin_tested : settles? twin apart twin_table 1 ≡ true
unfolding has bit any spoils interferes entry_number pair_count
twin_tested = refl

twin_single_tested : settles? twin single_file twin_single_table 2 ≡ true
unfolding has bit any entry_number pair_count
twin_single_tested = refl

called_tested : settles? called_lift apart called_table 4 ≡ true
unfolding has bit any spoils interferes entry_number pair_count set_of word
called_tested = refl

-- five facts have 15 pairs, four have 10
soon_5 : (k : ℕ) → k ≤ 15 → k ≤ pair_count 5
unfolding pair_count
soon_5 k le = le

soon_4 : (k : ℕ) → k ≤ 10 → k ≤ pair_count 4
unfolding pair_count
soon_4 k le = le

lift_settles : Settles lift apart 4
lift_settles = settles lift apart lift_table lift_admitted apart_lawful 4 lift_tested (soon_5 4 (lit≤ tt))

without_3_settles : Settles lift_without_3 apart 3
without_3_settles = settles lift_without_3 apart without_3_table without_3_admitted apart_lawful 3 without_3_tested (soon_5 3 (lit≤ tt))

from_1_4_settles : Settles lift_from_1_4 apart 1
from_1_4_settles = settles lift_from_1_4 apart from_1_4_table from_1_4_admitted apart_lawful 1 from_1_4_tested (soon_5 1 (lit≤ tt))

twin_settles : Settles twin apart 1
twin_settles = settles twin apart twin_table twin_admitted apart_lawful 1 twin_tested (soon_4 1 (lit≤ tt))

twin_single_settles : Settles twin single_file 2
twin_single_settles = settles twin single_file twin_single_table twin_admitted single_file_lawful 2 twin_single_tested (soon_4 2 (lit≤ tt))

called_settles : Settles called_lift apart 4
called_settles = settles called_lift apart called_table called_admitted apart_lawful 4 called_tested (soon_5 4 (lit≤ tt))

-- what is told of the distance
lift_told : SettledAfter lift apart 5 (Told 4)
unfolding has bit any entry_number pair_count
lift_told = (4, lift_settles, lit≤ tt, number 4 refl (distance lift apart lift_table lift_admitted apart_lawful 4 lift_tested 4 (lit≤ tt) refl, lit≤ tt))

lift_told_3 : After lift apart 3 (AtLeast 4)
unfolding has bit any entry_number pair_count
lift_told_3 = (4, lift_settles, at_least 4 refl (not_reached lift apart lift_table lift_admitted apart_lawful 4 lift_tested 3 (lit≤ tt) refl, lit≤ tt, refl))

without_3_told : SettledAfter lift_without_3 apart 4 NoPlan
unfolding has bit any entry_number pair_count
without_3_told =
    (3, without_3_settles, lit≤ tt, none refl (not_reached lift_without_3 apart without_3_table without_3_admitted apart_lawful 3 without_3_tested 3 (lit≤ tt) refl, lit≤ tt))

from_1_4_told : SettledAfter lift_from_1_4 apart 2 (Told 1)
unfolding has bit any entry_number pair_count
from_1_4_told = (1, from_1_4_settles, lit≤ tt, number 1 refl (distance lift_from_1_4 apart from_1_4_table from_1_4_admitted apart_lawful 1 from_1_4_tested 1 (lit≤ tt) refl, lit≤ tt))

twin_told : SettledAfter twin apart 2 (Told 1)
unfolding has bit any entry_number pair_count
twin_told = (1, twin_settles, lit≤ tt, number 1 refl (distance twin apart twin_table twin_admitted apart_lawful 1 twin_tested 1 (lit≤ tt) refl, lit≤ tt))

twin_single_told : SettledAfter twin single_file 3 (Told 2)
unfolding has bit any entry_number pair_count
twin_single_told =
    (2, twin_single_settles, lit≤ tt, number 2 refl (distance twin single_file twin_single_table twin_admitted single_file_lawful 2 twin_single_tested 2 (lit≤ tt) refl, lit≤ tt))

called_told : SettledAfter called_lift apart 5 (Told 4)
unfolding has bit any entry_number pair_count
called_told = (4, called_settles, lit≤ tt, number 4 refl (distance called_lift apart called_table called_admitted apart_lawful 4 called_tested 4 (lit≤ tt) refl, lit≤ tt))

-- entries of the lift
entry_7 : (entry_number 1 3 ≡ 7) × Entry lift apart 5 1 3 2
unfolding entry_number pair_count
entry_7 = (refl, (4, lift_settles, lit≤ tt, inl (first_at lift apart lift_table lift_admitted apart_lawful 4 lift_tested 1 3 2 (lit≤ tt) refl, lit≤ tt)))

entry_8 : (entry_number 2 3 ≡ 8) × Entry lift apart 5 2 3 65535
unfolding entry_number pair_count
entry_8 = (refl, (4, lift_settles, lit≤ tt, inr (never_at lift apart lift_table lift_admitted apart_lawful 4 lift_tested 2 3 4 (lit≤ tt) refl, refl)))

-- verdicts
lift_sound : Judged lift apart (sheet ((0 ∷ []) ∷ (1 ∷ []) ∷ (2 ∷ []) ∷ (3 ∷ []) ∷ [])) Sound
unfolding has bit any listed some_job spoils interferes
lift_sound = verdict_is lift apart lift_admitted apart_lawful ((0 ∷ []) ∷ (1 ∷ []) ∷ (2 ∷ []) ∷ (3 ∷ []) ∷ []) (has lift.start) 0 Sound refl

lift_clash : Judged lift apart (sheet ((0 ∷ 1 ∷ []) ∷ [])) (Clash 0 0 1)
unfolding has bit any listed some_job spoils interferes
lift_clash = verdict_is lift apart lift_admitted apart_lawful ((0 ∷ 1 ∷ []) ∷ []) (has lift.start) 0 (Clash 0 0 1) refl

lift_missing : Judged lift apart (sheet ((0 ∷ []) ∷ (2 ∷ []) ∷ [])) (Missing 1 2 1)
unfolding has bit any listed some_job spoils interferes
lift_missing = verdict_is lift apart lift_admitted apart_lawful ((0 ∷ []) ∷ (2 ∷ []) ∷ []) (has lift.start) 0 (Missing 1 2 1) refl

lift_goal : Judged lift apart (sheet ((0 ∷ []) ∷ (1 ∷ []) ∷ (2 ∷ []) ∷ [])) (Goal 0)
unfolding has bit any listed some_job spoils interferes
lift_goal = verdict_is lift apart lift_admitted apart_lawful ((0 ∷ []) ∷ (1 ∷ []) ∷ (2 ∷ []) ∷ []) (has lift.start) 0 (Goal 0) refl

without_3_closed : Judged lift_without_3 apart (sheet ((0 ∷ []) ∷ (1 ∷ []) ∷ (2 ∷ []) ∷ (3 ∷ []) ∷ [])) (Closed 3 3)
unfolding has bit any listed some_job spoils interferes includes
without_3_closed = verdict_is lift_without_3 apart without_3_admitted apart_lawful ((0 ∷ []) ∷ (1 ∷ []) ∷ (2 ∷ []) ∷ (3 ∷ []) ∷ []) (has lift_without_3.start) 0 (Closed 3 3) refl

twin_sound : Judged twin apart (sheet ((0 ∷ 1 ∷ []) ∷ [])) Sound
unfolding has bit any listed some_job spoils interferes
twin_sound = verdict_is twin apart twin_admitted apart_lawful ((0 ∷ 1 ∷ []) ∷ []) (has twin.start) 0 Sound refl

twin_clash : Judged twin single_file (sheet ((0 ∷ 1 ∷ []) ∷ [])) (Clash 0 0 1)
unfolding has bit any listed some_job
twin_clash = verdict_is twin single_file twin_admitted single_file_lawful ((0 ∷ 1 ∷ []) ∷ []) (has twin.start) 0 (Clash 0 0 1) refl

called_sound : Judged called_lift apart (sheet ((0 ∷ []) ∷ (1 ∷ []) ∷ (1 ∷ 2 ∷ []) ∷ (3 ∷ []) ∷ [])) Sound
unfolding has bit any listed some_job spoils interferes set_of word
called_sound = verdict_is called_lift apart called_admitted apart_lawful ((0 ∷ []) ∷ (1 ∷ []) ∷ (1 ∷ 2 ∷ []) ∷ (3 ∷ []) ∷ []) (has called_lift.start) 0 Sound refl

called_clash : Judged called_lift apart (sheet ((0 ∷ 1 ∷ []) ∷ [])) (Clash 0 0 1)
unfolding has bit any listed some_job spoils interferes set_of word
called_clash = verdict_is called_lift apart called_admitted apart_lawful ((0 ∷ 1 ∷ []) ∷ []) (has called_lift.start) 0 (Clash 0 0 1) refl

pub worked_cases : WorkedCases
worked_cases = record {
  admitted = (lift_admitted, without_3_admitted, from_1_4_admitted, twin_admitted, called_admitted);
  lift_settles = lift_settles;
  lift_distance = lift_told;
  lift_after_three = lift_told_3;
  lift_entry_7 = entry_7;
  lift_entry_8 = entry_8;
  lift_0_1_2_3 = record { rounds = refl; verdict = lift_sound; distance = lift_told; excess = number 4 refl refl };
  lift_0_1_2_3_shortest = (refl, refl);
  lift_01 = record { rounds = refl; verdict = lift_clash; distance = lift_told; excess = number 4 refl refl };
  lift_0_2 = record { rounds = refl; verdict = lift_missing; distance = lift_told; excess = number 4 refl refl };
  lift_0_1_2 = record { rounds = refl; verdict = lift_goal; distance = lift_told; excess = number 4 refl refl };
  without_3 = record { rounds = refl; verdict = without_3_closed; distance = without_3_told; excess = none refl refl };
  from_1_4 = from_1_4_told;
  twin_apart = record { rounds = refl; verdict = twin_sound; distance = twin_told; excess = number 1 refl refl };
  twin_single_file = record { rounds = refl; verdict = twin_clash; distance = twin_single_told; excess = number 2 refl refl };
  called_lift_0_1_12_3 = record { rounds = refl; verdict = called_sound; distance = called_told; excess = number 4 refl refl };
  called_lift_01 = record { rounds = refl; verdict = called_clash; distance = called_told; excess = number 4 refl refl };
}
