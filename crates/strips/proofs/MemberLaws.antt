-- The numbers that a walk over a sheet place has ahead are those of the round at the place.
use Rattle.std.proofs.Common.{◌≡◌, ℕ, ◌<◌, ◌≤◌, true, ltb, sym, ap, ◌∙◌, arith}
use Rattle.std.proofs.lemmas.Bool.{and_parts, and_from, ltb-true, lt-ltb}
use Rattle.sets.specs.declared.jobs.JobSet.{JobSet}
use Rattle.sets.specs.declared.members.Members.{Members}
use Rattle.sets.specs.Jobs.{includes}
use Rattle.sets.specs.Members.{Ahead}
use Rattle.strips.specs.Rounds.{round_of}

module _ (m : ℕ) (place : JobSet) (s : Members) (set_is : s.set ≡ place) (end_is : s.end ≡ m) where
  pub ahead : (j : ℕ) → s.from ≤ j → round_of m place j ≡ true → Ahead s j
  ahead j le e =
      let (low, there) = and_parts (ltb j m) (includes place j) e in
      let lt : j < m = ltb-true j m low in
      (le, omega arith, ap (λ (x : JobSet). includes x j) set_is ∙ there)

  pub in_round : (j : ℕ) → Ahead s j → round_of m place j ≡ true
  in_round j (le, lt, there) =
      and_from (ltb j m) (includes place j) (lt-ltb j m (omega arith)) (sym (ap (λ (x : JobSet). includes x j) set_is) ∙ there)
