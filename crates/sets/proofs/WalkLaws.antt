-- What a walk over a set has behind it.
--
--   Begun s w      the walk w is over the set s: what is left is of s
--   Met s w P      P holds of every fact of s that the walk has behind it
use Rattle.std.proofs.Common.{◌≡◌, ℕ, true, false, not, ◌&&◌, eqb, ltb, Some, None, sym, ◌∙◌, inl, inr, arith}
use Rattle.std.proofs.lemmas.Bool.{cases_eq, cases_lt, and_parts}
use Rattle.std.proofs.lemmas.Bool.Decides.{nat_tests}
use Rattle.sets.specs.declared.facts.FactSet.{FactSet}
use Rattle.sets.specs.declared.walk.FactWalk.{FactWalk}
use Rattle.sets.specs.Facts.{has}
use Rattle.sets.specs.Walk.{Takes}
use Rattle.sets.proofs.FactLaws.{has_past}

-- a set minus the set of one fact
pub one_less : (s one r : FactSet) (f : ℕ) → ((k : ℕ) → has one k ≡ (eqb k f && ltb k 128)) → ((k : ℕ) → has r k ≡ (has s k && not (has one k)))
    → (k : ℕ) → has r k ≡ (has s k && not (eqb k f))
one_less s one r f single less k =
    let a = single k in let b = less k in
    elim (cases_lt k 128) [
      | inl l ↦ grind (arith, nat_tests)
      | inr l ↦ let p = has_past s k l in grind (arith, nat_tests)
    ]

abbrev pub Begun : FactSet → FactWalk → Type 0
Begun s w = (f : ℕ) → has w.left f ≡ true → has s f ≡ true

abbrev pub Met : FactSet → FactWalk → (ℕ → Type 0) → Type 0
Met s w P = (f : ℕ) → has s f ≡ true → has w.left f ≡ false → P f

module _ (s : FactSet) (w : FactWalk) where
  pub met_all : (u : FactWalk) (P : ℕ → Type 0) → Takes w None u → Met s w P → (f : ℕ) → has s f ≡ true → P f
  met_all u P step met f h = met f h (step.0 f)

  module _ (u : FactWalk) (f : ℕ) (step : Takes w (Some f) u) where
    pub begun_more : Begun s w → Begun s u
    begun_more begun k h = begun k (and_parts (has w.left k) _ (sym (step.1 k) ∙ h)).0

    pub met_more : (P : ℕ → Type 0) → Met s w P → P f → Met s u P
    met_more P met here k h off =
        elim (cases_eq k f) [
          | inl e ↦ rw e here
          | inr ne ↦ met k h (let l = step.1 k in grind (arith, nat_tests))
        ]
