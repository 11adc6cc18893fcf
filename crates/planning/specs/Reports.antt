-- What judging answers, by its parts.
--
--   told d            the word of the distance d, `told`, `none` or `at least`, and its number where it has one
--   ToldAs d A B C    d is told, and is a number of which A holds; or d is none, and B holds; or d is at least a number
--                     of which C holds
--   Excess r d e      e is r rounds minus the distance d, where one is told, and else absent
--   text d            how the distance d reads: its number, `none`, or `at least` and a number, in decimal
--   Shortest rep      the sheet is called shortest: it is sound, and its excess is 0
use Rattle.std.specs.Prelude.{◌≡◌, ℕ, ℤ, pos, ◌-ℤ◌, List, [], ◌∷◌, ◌++◌, Some, None, codes, decimal, Option}
use Rattle.verdicts.specs.Verdicts.{IsSound}
use Rattle.planning.specs.declared.report.Distance.{Distance}
use Rattle.planning.specs.declared.report.Distance.TheVariants.{Told, NoPlan, AtLeast}
use Rattle.planning.specs.declared.report.Report.{Report}

abbrev pub told : Distance → List ℕ × List ℕ
told (Told d) = (codes "told", d ∷ [])
told NoPlan = (codes "none", [])
told (AtLeast k) = (codes "at least", k ∷ [])

pub data ToldAs (d : Distance) (A : ℕ → Type 0) (B : Type 0) (C : ℕ → Type 0) : Type 0 where
  number : (x : ℕ) → told d ≡ (codes "told", x ∷ []) → A x → ToldAs d A B C
  none : told d ≡ (codes "none", []) → B → ToldAs d A B C
  at_least : (k : ℕ) → told d ≡ (codes "at least", k ∷ []) → C k → ToldAs d A B C

abbrev pub Excess : ℕ → Distance → Option ℤ → Type 0
Excess r d e = ToldAs d (λ x. e ≡ Some (pos r -ℤ pos x)) (e ≡ None) (λ k. e ≡ None)

abbrev pub text : Distance → List ℕ
text (Told d) = decimal d
text NoPlan = codes "none"
text (AtLeast k) = codes "at least " ++ decimal k

abbrev pub Shortest : Report → Type 0
Shortest rep = IsSound rep.verdict × (rep.excess ≡ Some (pos 0))
