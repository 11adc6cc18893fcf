-- The sets of a job that is made from a row.
use Rattle.std.proofs.Common.{◌≡◌, ℕ, ◌^◌, ◌<◌, Bool, true, false, not, ◌&&◌, ltb, refl, ◌∙◌, ap₂}
use Rattle.sets.specs.declared.facts.FactSet.{FactSet}
use Rattle.sets.specs.Facts.{has, set_of}
use Rattle.sets.proofs.FactLaws.{is_set_of}
use Rattle.strips.specs.Loading.{within}

pub is_within : (n : ℕ) (s r : FactSet) → r.low < 2 ^ 64 → r.high < 2 ^ 64 → ((f : ℕ) → has r f ≡ (ltb f n && has s f)) → r ≡ within n s
is_within n s r l h same = is_set_of r (λ f. ltb f n && has s f) l h same

-- the deletes below n without the adds below n
pub is_less : (n : ℕ) (s a d k r : FactSet) → r.low < 2 ^ 64 → r.high < 2 ^ 64
    → ((f : ℕ) → has a f ≡ (ltb f n && has s f)) → ((f : ℕ) → has k f ≡ (ltb f n && has d f))
    → ((f : ℕ) → has r f ≡ (has k f && not (has a f)))
    → r ≡ set_of (λ f. ltb f n && (has d f && not (has s f)))
is_less n s a d k r l h added kept same =
    is_set_of r (λ f. ltb f n && (has d f && not (has s f))) l h
    (λ f. same f ∙ ap₂ (λ (x y : Bool). x && not y) (kept f) (added f) ∙ pulled (ltb f n) (has d f) (has s f))
  where
    pulled : (t x y : Bool) → ((t && x) && not (t && y)) ≡ (t && (x && not y))
    pulled true x y = refl
    pulled false x y = refl
