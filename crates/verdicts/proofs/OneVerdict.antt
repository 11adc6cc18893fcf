-- A list of rounds has one verdict.
use Rattle.std.proofs.Common.{◌≡◌, ℕ, ◌+◌, List, [], ◌∷◌, codes, sym, ap, ◌∙◌, subst, inl, inr}
use Rattle.std.proofs.lemmas.Bool.{both_ways}
use Rattle.sets.specs.Search.{Lowest}
use Rattle.sets.proofs.SearchLaws.{lowest_one}
use Rattle.strips.specs.Tasks.{Meaning}
use Rattle.strips.specs.Rules.{Says}
use Rattle.strips.specs.Rounds.{State, Round, result}
use Rattle.verdicts.specs.declared.verdict.Verdict.{Verdict}
use Rattle.verdicts.specs.Verdicts.{told}
use Rattle.verdicts.specs.Judging.{Fault, closed, clash, missing, Ended, goal, sound, JudgedFrom, Clashing, Lacking}
use Rattle.verdicts.proofs.FaultLaws.{fault_not_allowed}

-- two pairs, each of the lowest that are joined
pair_one : (P : ℕ → ℕ → Type 0) (i j k j' k' : ℕ) → Lowest (λ h. (l : ℕ) × P h l) j → Lowest (P j) k → Lowest (λ h. (l : ℕ) × P h l) j' → Lowest (P j') k'
    → ◌≡◌ {A = List ℕ} (i ∷ j ∷ k ∷ []) (i ∷ j' ∷ k' ∷ [])
pair_one P i j k j' k' low lowest low' lowest' =
    let same : j ≡ j' = lowest_one (λ h. (l : ℕ) × P h l) j j' low low' in
    let also : k ≡ k' = lowest_one (P j') k k' (subst (λ (h : ℕ). Lowest (P h) k) same lowest) lowest' in
    cc

module _ (T : Meaning) (R : Says) where
  one_fault : (s : State) (i : ℕ) (r : Round) (v w : Verdict) → Fault T R s i r v → Fault T R s i r w → told v ≡ told w
  one_fault s i r v w (closed j low e) (closed j' low' e') =
      let same = lowest_one _ j j' low low' in e ∙ ap (λ (k : ℕ). (codes "closed", i ∷ k ∷ [])) same ∙ sym e'
  one_fault s i r v w (closed j low e) (clash _ _ none _ _ _) = absurd (none j low.0)
  one_fault s i r v w (closed j low e) (missing _ _ none _ _ _ _) = absurd (none j low.0)
  one_fault s i r v w (clash _ _ none _ _ _) (closed j low _) = absurd (none j low.0)
  one_fault s i r v w (clash j k _ low lowest e) (clash j' k' _ low' lowest' e') =
      e ∙ ap (λ (ns : List ℕ). (codes "clash", ns)) (pair_one (Clashing T R r) i j k j' k' low lowest low' lowest') ∙ sym e'
  one_fault s i r v w (clash j k _ _ lowest _) (missing _ _ _ none _ _ _) = absurd (none j k lowest.0)
  one_fault s i r v w (missing _ _ none _ _ _ _) (closed j low _) = absurd (none j low.0)
  one_fault s i r v w (missing _ _ _ none _ _ _) (clash j k _ _ lowest _) = absurd (none j k lowest.0)
  one_fault s i r v w (missing j f _ _ low lowest e) (missing j' f' _ _ low' lowest' e') =
      e ∙ ap (λ (ns : List ℕ). (codes "missing", ns)) (pair_one (Lacking T s r) i j f j' f' low lowest low' lowest') ∙ sym e'

  one_end : (s : State) (v w : Verdict) → Ended T s v → Ended T s w → told v ≡ told w
  one_end s v w (goal f low e) (goal f' low' e') =
      let same = lowest_one _ f f' low low' in e ∙ ap (λ (k : ℕ). (codes "goal", k ∷ [])) same ∙ sym e'
  one_end s v w (goal f ((g, lacks), _) e) (sound holds e') = absurd (both_ways (s f) lacks (holds f g))
  one_end s v w (sound holds e) (goal f ((g, lacks), _) e') = absurd (both_ways (s f) lacks (holds f g))
  one_end s v w (sound _ e) (sound _ e') = e ∙ sym e'

  pub one_verdict : (rs : List Round) (s : State) (i : ℕ) (v w : Verdict) → JudgedFrom T R s i rs v → JudgedFrom T R s i rs w → told v ≡ told w
  one_verdict [] s i v w h h' = one_end s v w h h'
  one_verdict (r ∷ rs) s i v w (inl fault) (inl fault') = one_fault s i r v w fault fault'
  one_verdict (r ∷ rs) s i v w (inl fault) (inr (ok, _)) = absurd (fault_not_allowed T R s i r v fault ok)
  one_verdict (r ∷ rs) s i v w (inr (ok, _)) (inl fault) = absurd (fault_not_allowed T R s i r w fault ok)
  one_verdict (r ∷ rs) s i v w (inr (_, rest)) (inr (_, rest')) = one_verdict rs (result T s r) (i + 1) v w rest rest'
