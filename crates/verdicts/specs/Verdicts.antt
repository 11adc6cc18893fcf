-- Verdicts by their words.
--
--   told v           the word of verdict v, and its numbers in their order
--   IsSound v        v is the verdict sound
--   spaced ns        the numbers ns in decimal, each behind a blank
--   text v           how v reads: its word, then each number behind a blank, in decimal
--   fault_round v    the round at fault, where a round is
use Rattle.std.specs.Prelude.{◌≡◌, ℕ, List, [], ◌∷◌, ◌++◌, Some, None, codes, decimal, Option}
use Rattle.verdicts.specs.declared.verdict.Verdict.{Verdict}
use Rattle.verdicts.specs.declared.verdict.Verdict.TheVariants.{Closed, Clash, Missing, Goal, Sound}

abbrev pub told : Verdict → List ℕ × List ℕ
told (Closed r j) = (codes "closed", r ∷ j ∷ [])
told (Clash r j k) = (codes "clash", r ∷ j ∷ k ∷ [])
told (Missing r j f) = (codes "missing", r ∷ j ∷ f ∷ [])
told (Goal f) = (codes "goal", f ∷ [])
told Sound = (codes "sound", [])

abbrev pub IsSound : Verdict → Type 0
IsSound v = told v ≡ (codes "sound", [])

abbrev pub spaced : List ℕ → List ℕ
spaced [] = []
spaced (n ∷ ns) = codes " " ++ (decimal n ++ spaced ns)

abbrev pub text : Verdict → List ℕ
text v = (told v).0 ++ spaced (told v).1

abbrev pub fault_round : Verdict → Option ℕ
fault_round (Closed r j) = Some r
fault_round (Clash r j k) = Some r
fault_round (Missing r j f) = Some r
fault_round (Goal f) = None
fault_round Sound = None
