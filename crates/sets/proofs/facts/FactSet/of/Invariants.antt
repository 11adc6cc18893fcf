use Rattle.std.proofs.Common.{◌≡◌, ℕ, ◌&&◌, eqb, ltb, get_or}
use Rattle.sets.specs.Facts.{has}
use Rattle.sets.specs.Search.{any}
use Rattle.sets.proofs.facts.FactSet.of.Given as goal

abbrev pub invariant-loop-fact : goal.invariant-loop-fact
invariant-loop-fact l = (k : ℕ) → has l.set k ≡ (any l.fact-index (λ i. eqb k (get_or l.facts i 0)) && ltb k 128)
