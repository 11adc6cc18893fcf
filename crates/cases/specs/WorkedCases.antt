-- What is so of the small counts, by the definitions that the book's contracts cite.
--
--   After T R g d           d is what is told of the distance after g growings
--   SettledAfter T R g d    the same, and the book is settled by then
--   Entry T R g p q e       the book is settled after g growings, and e is the entry of {p, q}
--   Answer T R g rs rep     it is settled, and rep is what judging answers on the rounds rs
--   report r v d e          the report of r rounds with this verdict, distance and excess
--   WorkedCases             the cases; and that their five tasks are admitted, so that the theorem on lists of calls is
--                           true of them
use Rattle.std.specs.Prelude.{◌≡◌, ℕ, ◌<◌, min, List, [], ◌∷◌, length, ℤ, pos, negsuc, Some, None, Option}
use Rattle.strips.specs.Rounds.{Round}
use Rattle.strips.specs.Rules.{Says, apart, single_file}
use Rattle.strips.specs.Tasks.{Meaning, Admitted}
use Rattle.verdicts.specs.declared.verdict.Verdict.{Verdict}
use Rattle.verdicts.specs.declared.verdict.Verdict.TheVariants.{Closed, Clash, Missing, Goal, Sound}
use Rattle.verdicts.specs.Judging.{Judged}
use Rattle.layers.specs.Bounds.{Settles}
use Rattle.layers.specs.Pairs.{entry_number}
use Rattle.planning.specs.declared.report.Distance.{Distance}
use Rattle.planning.specs.declared.report.Distance.TheVariants.{Told, NoPlan, AtLeast}
use Rattle.planning.specs.declared.report.Report.{Report}
use Rattle.planning.specs.Main.{ToldAfter, EntryAfter}
use Rattle.planning.specs.Reports.{Excess, Shortest}
use Rattle.cases.specs.Counts.{lift, lift_without_3, lift_from_1_4, twin, called_lift, sheet}

abbrev pub After : Meaning → Says → ℕ → Distance → Type 0
After T R g d = (L : ℕ) × Settles T R L × ToldAfter T R L g d

abbrev pub SettledAfter : Meaning → Says → ℕ → Distance → Type 0
SettledAfter T R g d = (L : ℕ) × Settles T R L × (L < g) × ToldAfter T R L g d

abbrev pub Entry : Meaning → Says → ℕ → ℕ → ℕ → ℕ → Type 0
Entry T R g p q e = (L : ℕ) × Settles T R L × (L < g) × EntryAfter T R (min g L) p q e

pub record Answer (T : Meaning) (R : Says) (g : ℕ) (rs : List Round) (rep : Report) : Type 0 where
  pub rounds : rep.rounds ≡ length rs
  pub verdict : Judged T R rs rep.verdict
  pub distance : SettledAfter T R g rep.distance
  pub excess : Excess (length rs) rep.distance rep.excess

abbrev pub report : ℕ → Verdict → Distance → Option ℤ → Report
report r v d e = record { rounds = r; verdict = v; distance = d; excess = e }

pub record WorkedCases : Type 0 where
  pub admitted : Admitted lift × Admitted lift_without_3 × Admitted lift_from_1_4 × Admitted twin × Admitted called_lift
  -- the fifth growing settles: layer 4 is the first that equals its next
  pub lift_settles : Settles lift apart 4
  pub lift_distance : SettledAfter lift apart 5 (Told 4)
  pub lift_after_three : After lift apart 3 (AtLeast 4)
  pub lift_entry_7 : (entry_number 1 3 ≡ 7) × Entry lift apart 5 1 3 2
  pub lift_entry_8 : (entry_number 2 3 ≡ 8) × Entry lift apart 5 2 3 65535
  pub lift_0_1_2_3 : Answer lift apart 5 (sheet ((0 ∷ []) ∷ (1 ∷ []) ∷ (2 ∷ []) ∷ (3 ∷ []) ∷ [])) (report 4 Sound (Told 4) (Some (pos 0)))
  pub lift_0_1_2_3_shortest : Shortest (report 4 Sound (Told 4) (Some (pos 0)))
  pub lift_01 : Answer lift apart 5 (sheet ((0 ∷ 1 ∷ []) ∷ [])) (report 1 (Clash 0 0 1) (Told 4) (Some (negsuc 2)))
  pub lift_0_2 : Answer lift apart 5 (sheet ((0 ∷ []) ∷ (2 ∷ []) ∷ [])) (report 2 (Missing 1 2 1) (Told 4) (Some (negsuc 1)))
  pub lift_0_1_2 : Answer lift apart 5 (sheet ((0 ∷ []) ∷ (1 ∷ []) ∷ (2 ∷ []) ∷ [])) (report 3 (Goal 0) (Told 4) (Some (negsuc 0)))
  pub without_3 : Answer lift_without_3 apart 4 (sheet ((0 ∷ []) ∷ (1 ∷ []) ∷ (2 ∷ []) ∷ (3 ∷ []) ∷ [])) (report 4 (Closed 3 3) NoPlan None)
  pub from_1_4 : SettledAfter lift_from_1_4 apart 2 (Told 1)
  pub twin_apart : Answer twin apart 2 (sheet ((0 ∷ 1 ∷ []) ∷ [])) (report 1 Sound (Told 1) (Some (pos 0)))
  pub twin_single_file : Answer twin single_file 3 (sheet ((0 ∷ 1 ∷ []) ∷ [])) (report 1 (Clash 0 0 1) (Told 2) (Some (negsuc 0)))
  pub called_lift_0_1_12_3 :
      Answer called_lift apart 5 (sheet ((0 ∷ []) ∷ (1 ∷ []) ∷ (1 ∷ 2 ∷ []) ∷ (3 ∷ []) ∷ [])) (report 4 Sound (Told 4) (Some (pos 0)))
  pub called_lift_01 : Answer called_lift apart 5 (sheet ((0 ∷ 1 ∷ []) ∷ [])) (report 1 (Clash 0 0 1) (Told 4) (Some (negsuc 2)))
