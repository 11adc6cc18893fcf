-- Jobs that get in each other's way.
--
--   Spoils a b         job a deletes a fact that job b needs or adds
--   Interferes a b     one of the two spoils the other
--   interferes a b     the same as a test; no set has a fact from 128 up, so looking below 128 is enough
use Rattle.std.specs.Prelude.{◌≡◌, ℕ, Bool, true, ◌&&◌, ◌||◌, ◌⊎◌}
use Rattle.sets.specs.Facts.{has}
use Rattle.sets.specs.Search.{any}
use Rattle.strips.specs.declared.job.Job.{Job}

abbrev pub Spoils : Job → Job → Type 0
Spoils a b = (f : ℕ) × (has a.deletes f ≡ true) × ((has b.needs f ≡ true) ⊎ (has b.adds f ≡ true))

abbrev pub Interferes : Job → Job → Type 0
Interferes a b = Spoils a b ⊎ Spoils b a

unfoldable pub spoils : Job → Job → Bool
spoils a b = any 128 (λ f. has a.deletes f && (has b.needs f || has b.adds f))

unfoldable pub interferes : Job → Job → Bool
interferes a b = spoils a b || spoils b a
