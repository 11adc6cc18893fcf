-- The laws of `some_job`: which facts the jobs of a round add, or delete.
use Rattle.std.proofs.Common.{◌≡◌, ℕ, ◌<◌, true, false, ◌&&◌, Some, None, Option, sym, refl, subst, inl, inr, arith}
use Rattle.std.proofs.lemmas.Bool.{both_ways, cases_lt, and_parts, and_from}
use Rattle.sets.specs.declared.facts.FactSet.{FactSet}
use Rattle.sets.specs.Facts.{has}
use Rattle.sets.proofs.SearchLaws.{decides_any}
use Rattle.strips.specs.declared.job.Job.{Job}
use Rattle.strips.specs.Tasks.{Meaning, Admitted}
use Rattle.strips.specs.Rounds.{Round, in_part, some_job}

-- a present job has a number below m
pub present_below : (T : Meaning) → Admitted T → (j : ℕ) (a : Job) → T.job j ≡ Some a → j < T.m
present_below T ok j a is =
    elim (cases_lt j T.m) [
      | inl lt ↦ lt
      | inr le ↦ let none = ok.absent j le in let z : ◌≡◌ {A = ℕ} 0 1 = cc in absurd (omega arith)
    ]

pub part_found : (part : Job → FactSet) (o : Option Job) (f : ℕ) → in_part part o f ≡ true → (a : Job) × (o ≡ Some a) × (has (part a) f ≡ true)
part_found part None f h = absurd (both_ways false refl h)
part_found part (Some a) f h = (a, refl, h)

module _ (T : Meaning) (part : Job → FactSet) (r : Round) where
  pub some_found : (f : ℕ) → some_job T part r f ≡ true → (j : ℕ) × (a : Job) × (r j ≡ true) × (T.job j ≡ Some a) × (has (part a) f ≡ true)
  unfolding some_job
  some_found f h =
      let (j, lt, e) = (decides_any T.m (λ j. r j && in_part part (T.job j) f)).0 h in
      let (there, has-it) = and_parts (r j) (in_part part (T.job j) f) e in
      let (a, is, fa) = part_found part (T.job j) f has-it in
      (j, a, there, is, fa)

  pub some_made : Admitted T → (f j : ℕ) (a : Job) → r j ≡ true → T.job j ≡ Some a → has (part a) f ≡ true → some_job T part r f ≡ true
  unfolding some_job
  some_made ok f j a there is fa =
      (decides_any T.m (λ j. r j && in_part part (T.job j) f)).1 (
        j,
        present_below T ok j a is,
        and_from (r j) (in_part part (T.job j) f) there (subst (λ (o : Option Job). in_part part o f ≡ true) (sym is) fa),
      )
