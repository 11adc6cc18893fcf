-- The members of a job set, one after the other.
--
--   Ahead s j      job j is a member that is still to come
--   Rises s r u    one step: the lowest member ahead comes, and from then on only those above it are
--                  ahead; or none is, and nothing changes
use Rattle.std.specs.Prelude.{◌≡◌, ℕ, ◌+◌, ◌<◌, ◌≤◌, true, Some, None, Option}
use Rattle.sets.specs.declared.members.Members.{Members}
use Rattle.sets.specs.Jobs.{includes}
use Rattle.sets.specs.Search.{Lowest}

abbrev pub Ahead : Members → ℕ → Type 0
Ahead s j = (s.from ≤ j) × (j < s.end) × (includes s.set j ≡ true)

abbrev pub Rises : Members → Option ℕ → Members → Type 0
Rises s None u = ((j : ℕ) → ¬ Ahead s j) × (u ≡ s)
Rises s (Some j) u = Lowest (Ahead s) j × (u ≡ record { set = s.set; from = j + 1; end = s.end })
