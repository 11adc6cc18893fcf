-- Sharing rules: which two jobs may be in one round.
--
--   Says           a rule by its answers
--   Lawful R       the laws that bind a rule: swapping the two jobs gives the same answer, and yes is
--                  said only of jobs that don't interfere
--   apart          yes exactly if they don't interfere
--   single_file    always no
--   ZonesAgree     the zones differ or one is 0, no zone; zones_agree is the same as a test
--   zoned          yes exactly if apart says so and the zones agree
use Rattle.std.specs.Prelude.{◌≡◌, Bool, true, false, not, ◌&&◌, ◌||◌, ◌≢◌, ◌⊎◌, ◌==◌}
use Rattle.strips.specs.declared.job.Job.{Job}
use Rattle.strips.specs.Jobs.{Interferes, interferes}

abbrev pub Says : Type 0
Says = Job → Job → Bool

pub record Lawful (R : Says) : Type 0 where
  pub symmetric : (a b : Job) → R a b ≡ R b a
  pub harmless : (a b : Job) → R a b ≡ true → ¬ Interferes a b

abbrev pub apart : Says
apart a b = not (interferes a b)

abbrev pub single_file : Says
single_file a b = false

abbrev pub ZonesAgree : Job → Job → Type 0
ZonesAgree a b = (a.zone ≢ b.zone) ⊎ ((a.zone ≡ 0) ⊎ (b.zone ≡ 0))

abbrev pub zones_agree : Job → Job → Bool
zones_agree a b = not (a.zone == b.zone) || (a.zone == 0 || b.zone == 0)

abbrev pub zoned : Says
zoned a b = apart a b && zones_agree a b
