use Rattle.std.proofs.Common.{◌≡◌, ℕ, ◌<◌, true, ◌⊎◌, None, Decides, slice_index_or}
use Rattle.sets.specs.Facts.{has}
use Rattle.reach.specs.Makings.{Helps}
use Rattle.reach.proofs.ready.Ready.with_others.Given as goal

abbrev pub invariant-loop-other : goal.invariant-loop-other
invariant-loop-other g l =
    (q : ℕ) → Decides (has l.facts q) ((has l.initial.facts q ≡ true)
    ⊎ ((i : ℕ) × (i < l.other-index) × Helps (g.R.Rule.shares l.rule) l.self q (slice_index_or l.others i None)))
