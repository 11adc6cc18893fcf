-- Sets of facts by their members.
--
--   has s f      fact f is in the set s; no fact from 128 up is in any set
--   set_of p     the set of the facts below 128 that pass the test p
use Rattle.std.specs.Prelude.{ℕ, ◌+◌, ◌-◌, Bool, false, nat_lt, if◌then◌else◌}
use Rattle.sets.specs.declared.facts.FactSet.{FactSet}
use Rattle.sets.specs.Digits.{bit, word}

-- facts 0 to 63 are the digits of the low word, facts 64 to 127 those of the high word
unfoldable pub has : FactSet → ℕ → Bool
has s f = if nat_lt f 64 then bit s.low f else (if nat_lt f 128 then bit s.high (f - 64) else false)

unfoldable pub set_of : (ℕ → Bool) → FactSet
set_of p = record { low = word 64 p; high = word 64 (λ k. p (64 + k)) }
