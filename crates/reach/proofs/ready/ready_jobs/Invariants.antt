use Rattle.std.proofs.Common.{◌≡◌, ℕ, ◌<◌, length, get_or, None}
use Rattle.reach.specs.Makings.{ReadyAt}
use Rattle.reach.proofs.ready.ready_jobs.Given as goal

abbrev pub invariant-loop-j : goal.invariant-loop-j
invariant-loop-j g l =
    (length l.ready ≡ length l.initial.ready)
    × ((i : ℕ) → i < l.j → ReadyAt (g.S.Task.meaning l.task) l.reached i (get_or l.ready i None))
