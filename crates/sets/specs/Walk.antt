-- The facts of a set, one after the other.
--
--   count p n      how many numbers below n pass the test p
--   size s         how many facts the set s has
--   Takes s r u    one step: the lowest of the facts left comes, and then it alone is gone; or none is
--                  left, and nothing changes
use Rattle.std.specs.Prelude.{◌≡◌, ℕ, zero, suc, ◌+◌, Bool, true, false, not, ◌&&◌, Some, None, Option, ◌==◌, if◌then◌else◌}
use Rattle.sets.specs.declared.facts.FactSet.{FactSet}
use Rattle.sets.specs.declared.walk.FactWalk.{FactWalk}
use Rattle.sets.specs.Facts.{has}
use Rattle.sets.specs.Search.{Lowest}

unfoldable pub count : (ℕ → Bool) → ℕ → ℕ
count p zero = 0
count p (suc n) = (if p n then 1 else 0) + count p n

unfoldable pub size : FactSet → ℕ
size s = count (has s) 128

abbrev pub Takes : FactWalk → Option ℕ → FactWalk → Type 0
Takes s None u = ((f : ℕ) → has s.left f ≡ false) × (u ≡ s)
Takes s (Some f) u = Lowest (λ k. has s.left k ≡ true) f × ((k : ℕ) → has u.left k ≡ (has s.left k && not (k == f)))
