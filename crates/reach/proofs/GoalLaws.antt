-- The largest value of the facts of a set, found by a walk.
--
--   SoFar Is s w d    d is the largest value of the facts of s that the walk w has behind it, 0 if there
--                      is none; Is f x says that x is the value of fact f
use Rattle.std.proofs.Common.{◌≡◌, ℕ, ◌≤◌, true, ◌⊎◌, Some, sym, inl, inr, arith}
use Rattle.std.specs.Ordering.{nat_cmp, ord_max}
use Rattle.std.proofs.lemmas.Bool.{cases_lt}
use Rattle.std.proofs.lemmas.Bool.Decides.{nat_tests}
use Rattle.sets.specs.declared.facts.FactSet.{FactSet}
use Rattle.sets.specs.declared.walk.FactWalk.{FactWalk}
use Rattle.sets.specs.Facts.{has}
use Rattle.sets.specs.Walk.{Takes}
use Rattle.sets.proofs.WalkLaws.{Begun, Met, begun_more, met_more}
use Rattle.reach.specs.Tables.{Table, LargestOf, LargestWith, LargestWithin}

pub record SoFar (Is : ℕ → ℕ → Type 0) (s : FactSet) (w : FactWalk) (d : ℕ) : Type 0 where
  pub begun : Begun s w
  pub most : Met s w (λ f. (x : ℕ) × Is f x × (x ≤ d))
  pub there : ((d ≡ 0) × Met s w (λ _. ⊥)) ⊎ ((f : ℕ) × (has s f ≡ true) × Is f d)

module _ (Is : ℕ → ℕ → Type 0) (s : FactSet) (w : FactWalk) (d : ℕ) (so_far : SoFar Is s w d) (u : FactWalk) where
  pub so_far_more : (f x e : ℕ) → Takes w (Some f) u → Is f x → e ≡ ord_max nat_cmp d x → SoFar Is s u e
  so_far_more f x e step is larger =
      record {
        begun = begun_more s w u f step so_far.begun;
        most =
            met_more s w u f step (λ k. (y : ℕ) × Is k y × (y ≤ e)) (λ k h off. let (y, is_y, le) = so_far.most k h off in (y, is_y, omega (arith, both.0)))
            (x, is, both.1);
        there =
            elim (cases_lt d x) [
              | inl up ↦ let new : e ≡ x = grind (arith, nat_tests) in inr (f, so_far.begun f step.0.0, rw new is)
              | inr keep ↦
                  let same : e ≡ d = grind (arith, nat_tests) in
                  elim so_far.there [
                    | inl (zero_is, none) ↦ let new : e ≡ x = omega arith in inr (f, so_far.begun f step.0.0, rw new is)
                    | inr (k, there, is_k) ↦ inr (k, there, rw same is_k)
                  ]
            ];
      }
    where
      both : (d ≤ e) × (x ≤ e)
      both = elim (cases_lt d x) [ inl l ↦ (grind (arith, nat_tests), grind (arith, nat_tests)) | inr l ↦ (grind (arith, nat_tests), grind (arith, nat_tests)) ]

-- the largest of the largest entries of the facts of a set, each with the whole set
pub largest_within : (Is : ℕ → ℕ → Type 0) (s : FactSet) (tb : Table) (d : ℕ) → ((p x : ℕ) → Is p x → LargestWith p s tb x) → LargestOf Is s d
    → LargestWithin s tb d
largest_within Is s tb d row_of largest =
    record {
      most = λ p q hp hq. let (x, of_row, le) = largest.most p hp in let (y, is, low) = (row_of p x of_row).most q hq in omega arith;
      there =
          elim largest.there [
            | inl t ↦ inl t
            | inr (p, hp, of_row) ↦ elim (row_of p d of_row).there [ inl (zero_is, none) ↦ absurd (none p hp) | inr (q, hq, e) ↦ inr (p, q, hp, hq, sym e) ]
          ];
    }
