-- Sets of job numbers, as a sheet place holds them.
--
--   includes s j     job number j is in the set s
use Rattle.std.specs.Prelude.{ℕ, ◌/◌, ◌%◌, Bool, slice_index}
use Rattle.sets.specs.declared.jobs.JobSet.{JobSet}
use Rattle.sets.specs.Digits.{bit}

-- job j is digit j mod 64 of word j div 64
unfoldable pub includes : JobSet → ℕ → Bool
includes s j = bit (slice_index s.words (j / 64)) (j % 64)
