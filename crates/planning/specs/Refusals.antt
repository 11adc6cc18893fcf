-- Refusals by their numbers.
--
--   number c        the number of the cause c
--   told e          the refusal e as two numbers: its own and its place
--   text e          how e reads: `refused with`, its number, `at`, its place, both in decimal
--   Refused k i r   the answer r is the refusal with number k and place i
use Rattle.std.specs.Prelude.{◌≡◌, ℕ, List, ◌++◌, codes, decimal, Result, IsErrAnd}
use Rattle.planning.specs.declared.refusal.Cause.{Cause}
use Rattle.planning.specs.declared.refusal.Cause.TheVariants.{
  Truncated,
  OtherMark,
  WrongLength,
  FactCount,
  NoSuchFact,
  NotRising,
  BytesFollow,
  Misfit,
  NoSuchJob,
  SheetFull,
  NoRounds,
  Settled,
  UnsoundSheet,
  BadName,
  ShortOutput,
}
use Rattle.planning.specs.declared.refusal.Refusal.{Refusal}

abbrev pub number : Cause → ℕ
number Truncated = 1
number OtherMark = 2
number WrongLength = 3
number FactCount = 4
number NoSuchFact = 5
number NotRising = 6
number BytesFollow = 8
number Misfit = 9
number NoSuchJob = 10
number SheetFull = 11
number NoRounds = 12
number Settled = 13
number UnsoundSheet = 14
number BadName = 15
number ShortOutput = 16

abbrev pub told : Refusal → ℕ × ℕ
told e = (number e.cause, e.place)

abbrev pub text : Refusal → List ℕ
text e = codes "refused with " ++ (decimal (number e.cause) ++ (codes " at " ++ decimal e.place))

abbrev pub Refused : {A : Type 0} → ℕ → ℕ → Result A Refusal → Type 0
Refused k i r = IsErrAnd r (λ e. told e ≡ (k, i))
