-- The verdict on a sheet, as a test.
use Rattle.std.proofs.Common.{◌≡◌, ℕ, ◌+◌, ◌<◌, Bool, true, false, not, ◌&&◌, ◌||◌, eqb, ltb, List, [], ◌∷◌, length, get_or, Some, None, Decides, Option, refl, ap, inl, inr, arith}
use Rattle.std.proofs.lemmas.Bool.{both_ways, and_parts, or_cases, eqb-true, ltb-true, not-true}
use Rattle.std.proofs.lemmas.Bool.Decides.{Decides-and, Decides-ltb, Decides-like}
use Rattle.sets.specs.Facts.{has}
use Rattle.sets.specs.Search.{any, listed}
use Rattle.sets.proofs.FactLaws.{has_below}
use Rattle.sets.proofs.SearchLaws.{decides_any}
use Rattle.strips.specs.declared.job.Job.{Job}
use Rattle.strips.specs.Tasks.{Meaning, Admitted}
use Rattle.strips.specs.Rules.{Says, Lawful}
use Rattle.strips.specs.Rounds.{State, Round, Allowed, result}
use Rattle.strips.proofs.PartLaws.{present_below}
use Rattle.verdicts.specs.declared.verdict.Verdict.{Verdict}
use Rattle.verdicts.specs.declared.verdict.Verdict.TheVariants.{Closed, Clash, Missing, Goal, Sound}
use Rattle.verdicts.specs.Verdicts.{told}
use Rattle.verdicts.specs.Judging.{
  Absent,
  Partner,
  Clashing,
  Lacks,
  Lacking,
  Fault,
  closed,
  clash,
  missing,
  Ended,
  goal,
  sound,
  JudgedFrom,
}
use Rattle.verdicts.proofs.FaultLaws.{no_fault, holds_all}
use Rattle.cases.specs.Counts.{sheet}
use Rattle.cases.proofs.Tests.{
  every,
  every_passes,
  decides_some,
  decides_lowest,
  decides_true,
  decides_false,
  on_job,
  decides_on_job,
}

abbrev pub gone? : Option Job → Bool
gone? None = true
gone? (Some a) = false

decides_gone : (o : Option Job) → Decides (gone? o) (o ≡ None)
decides_gone None = ((λ _. refl), (λ _. refl))
decides_gone (Some a) = ((λ e. absurd (both_ways false refl e)), (λ e. absurd (let z : ◌≡◌ {A = ℕ} 0 1 = cc in omega arith)))

abbrev pub lowest? : (ℕ → Bool) → ℕ → Bool
lowest? p k = p k && every k (λ i. not (p i))

abbrev pub none? : ℕ → (ℕ → Bool) → Bool
none? n p = every n (λ i. not (p i))

none_is : (n : ℕ) (p : ℕ → Bool) (P : ℕ → Type 0) → ((k : ℕ) → Decides (p k) (P k)) → ((k : ℕ) → P k → k < n) → none? n p ≡ true → (k : ℕ) → P k → ⊥
none_is n p P each low e k h = both_ways (p k) (not-true (p k) (every_passes n (λ i. not (p i)) e k (low k h))) ((each k).1 h)

module _ (T : Meaning) (R : Says) where
  abbrev pub numbered? : List ℕ → Bool
  numbered? js = every (length js) (λ i. ltb (get_or js i 0) T.m)

  abbrev pub absent? : Round → ℕ → Bool
  absent? r j = r j && gone? (T.job j)

  abbrev pub clash? : Round → ℕ → ℕ → Bool
  clash? r j k = r j && on_job (T.job j) (λ a. ltb j k && (r k && on_job (T.job k) (λ b. not (R a b))))

  abbrev pub clashes? : Round → ℕ → Bool
  clashes? r j = any T.m (clash? r j)

  abbrev pub lacks? : State → Round → ℕ → ℕ → Bool
  lacks? s r j f = r j && on_job (T.job j) (λ a. has a.needs f && not (s f))

  abbrev pub short? : State → Round → ℕ → Bool
  short? s r j = any 128 (lacks? s r j)

  abbrev pub unmet? : State → ℕ → Bool
  unmet? s f = has T.goal f && not (s f)

  abbrev pub allowed? : State → Round → Bool
  allowed? s r = none? T.m (absent? r) && (none? T.m (clashes? r) && none? T.m (short? s r))

  abbrev pub fault? : State → ℕ → Round → Verdict → Bool
  fault? s i r (Closed h j) = eqb h i && lowest? (absent? r) j
  fault? s i r (Clash h j k) = eqb h i && (none? T.m (absent? r) && (lowest? (clashes? r) j && lowest? (clash? r j) k))
  fault? s i r (Missing h j f) =
      eqb h i && ((none? T.m (absent? r) && none? T.m (clashes? r)) && (lowest? (short? s r) j && lowest? (lacks? s r j) f))
  fault? s i r (Goal f) = false
  fault? s i r Sound = false

  abbrev pub ended? : State → Verdict → Bool
  ended? s (Closed h j) = false
  ended? s (Clash h j k) = false
  ended? s (Missing h j f) = false
  ended? s (Goal f) = lowest? (unmet? s) f
  ended? s Sound = none? 128 (unmet? s)

  abbrev pub verdict? : State → ℕ → List (List ℕ) → Verdict → Bool
  verdict? s i [] v = ended? s v
  verdict? s i (js ∷ rest) v =
      numbered? js && (fault? s i (listed js) v || (allowed? s (listed js) && verdict? (result T s (listed js)) (i + 1) rest v))

  module _ (ok : Admitted T) (law : Lawful R) where
    numbered_is : (js : List ℕ) → numbered? js ≡ true → (j : ℕ) → listed js j ≡ true → j < T.m
    unfolding listed
    numbered_is js e j there =
        let (i, lt, is) = (decides_any (length js) (λ i. eqb j (get_or js i 0))).0 there in
        let same = eqb-true j (get_or js i 0) is in
        let low = ltb-true (get_or js i 0) T.m (every_passes (length js) _ e i lt) in
        omega arith

    module _ (r : Round) where
      dec_absent : (j : ℕ) → Decides (absent? r j) (Absent T r j)
      dec_absent j = Decides-and (r j) _ (decides_true (r j)) (decides_gone (T.job j))

      dec_clash : (j k : ℕ) → Decides (clash? r j k) (Clashing T R r j k)
      dec_clash j k =
          Decides-and (r j) _ (decides_true (r j))
          (decides_on_job (T.job j) _ (λ a. Partner T R r j a k) (λ a _.
          Decides-like _ (λ (x, (y, z)). (x, y, z)) (λ (x, y, z). (x, (y, z)))
          (Decides-and (ltb j k) _ (Decides-ltb j k)
          (Decides-and (r k) _ (decides_true (r k))
          (decides_on_job (T.job k) _ (λ b. R a b ≡ false) (λ b _. decides_false (R a b)))))))

      dec_clashes : (j : ℕ) → Decides (clashes? r j) ((k : ℕ) × Clashing T R r j k)
      dec_clashes j =
          decides_some T.m (clash? r j) (Clashing T R r j) (dec_clash j)
          (λ k (_, (a, _, (_, _, (b, is, _)))). present_below T ok k b is)

      module _ (s : State) where
        dec_lacks : (j f : ℕ) → Decides (lacks? s r j f) (Lacking T s r j f)
        dec_lacks j f =
            Decides-and (r j) _ (decides_true (r j))
            (decides_on_job (T.job j) _ (λ a. Lacks s a.needs f) (λ a _.
            Decides-and (has a.needs f) _ (decides_true (has a.needs f)) (decides_false (s f))))

        dec_short : (j : ℕ) → Decides (short? s r j) ((f : ℕ) × Lacking T s r j f)
        dec_short j = decides_some 128 (lacks? s r j) (Lacking T s r j) (dec_lacks j) (λ f (_, (a, _, (needs, _))). has_below a.needs f needs)

        module _ (numbered : (j : ℕ) → r j ≡ true → j < T.m) where
          no_absent : none? T.m (absent? r) ≡ true → (h : ℕ) → Absent T r h → ⊥
          no_absent = none_is T.m (absent? r) (Absent T r) dec_absent (λ h (there, _). numbered h there)

          no_clash : none? T.m (clashes? r) ≡ true → (h l : ℕ) → Clashing T R r h l → ⊥
          no_clash e h l c = none_is T.m (clashes? r) (λ j. (k : ℕ) × Clashing T R r j k) dec_clashes (λ h (_, (there, _)). numbered h there) e h (l, c)

          no_lack : none? T.m (short? s r) ≡ true → (h f : ℕ) → Lacking T s r h f → ⊥
          no_lack e h f c = none_is T.m (short? s r) (λ j. (f : ℕ) × Lacking T s r j f) dec_short (λ h (_, (there, _)). numbered h there) e h (f, c)

          allowed_is : allowed? s r ≡ true → Allowed T R s r
          allowed_is e =
              let (open', rest) = and_parts (none? T.m (absent? r)) _ e in
              let (peace, held) = and_parts (none? T.m (clashes? r)) _ rest in
              no_fault T R s r law.symmetric (no_absent open') (no_clash peace) (no_lack held)

          fault_is : (i : ℕ) (v : Verdict) → fault? s i r v ≡ true → Fault T R s i r v
          fault_is i (Closed h j) e =
              let (is, low) = and_parts (eqb h i) _ e in
              closed j (decides_lowest (absent? r) (Absent T r) dec_absent j low) (ap (λ (n : ℕ). told (Closed n j)) (eqb-true h i is))
          fault_is i (Clash h j k) e =
              let (is, rest) = and_parts (eqb h i) _ e in
              let (open', lows) = and_parts (none? T.m (absent? r)) _ rest in
              let (first, second) = and_parts (lowest? (clashes? r) j) _ lows in
              clash j k (no_absent open') (decides_lowest (clashes? r) _ dec_clashes j first) (decides_lowest (clash? r j) (Clashing T R r j) (dec_clash j) k second)
              (ap (λ (n : ℕ). told (Clash n j k)) (eqb-true h i is))
          fault_is i (Missing h j f) e =
              let (is, rest) = and_parts (eqb h i) _ e in
              let (checks, lows) = and_parts (none? T.m (absent? r) && none? T.m (clashes? r)) _ rest in
              let (open', peace) = and_parts (none? T.m (absent? r)) _ checks in
              let (first, second) = and_parts (lowest? (short? s r) j) _ lows in
              missing j f (no_absent open') (no_clash peace) (decides_lowest (short? s r) _ dec_short j first)
              (decides_lowest (lacks? s r j) (Lacking T s r j) (dec_lacks j) f second)
              (ap (λ (n : ℕ). told (Missing n j f)) (eqb-true h i is))
          fault_is i (Goal f) e = absurd (both_ways false refl e)
          fault_is i Sound e = absurd (both_ways false refl e)

    dec_unmet : (s : State) (f : ℕ) → Decides (unmet? s f) (Lacks s T.goal f)
    dec_unmet s f = Decides-and (has T.goal f) _ (decides_true (has T.goal f)) (decides_false (s f))

    ended_is : (s : State) (v : Verdict) → ended? s v ≡ true → Ended T s v
    ended_is s (Closed h j) e = absurd (both_ways false refl e)
    ended_is s (Clash h j k) e = absurd (both_ways false refl e)
    ended_is s (Missing h j f) e = absurd (both_ways false refl e)
    ended_is s (Goal f) e = goal f (decides_lowest (unmet? s) (Lacks s T.goal) (dec_unmet s) f e) refl
    ended_is s Sound e =
        sound (holds_all s T.goal (none_is 128 (unmet? s) (Lacks s T.goal) (dec_unmet s) (λ f (there, _). has_below T.goal f there) e)) refl

    pub verdict_is : (js : List (List ℕ)) (s : State) (i : ℕ) (v : Verdict) → verdict? s i js v ≡ true → JudgedFrom T R s i (sheet js) v
    verdict_is [] s i v e = ended_is s v e
    verdict_is (js ∷ rest) s i v e =
        let (low, way) = and_parts (numbered? js) _ e in
        elim (or_cases (fault? s i (listed js) v) _ way) [
          | inl f ↦ inl (fault_is (listed js) s (numbered_is js low) i v f)
          | inr on ↦
              let (allowed, further) = and_parts (allowed? s (listed js)) _ on in
              inr (allowed_is (listed js) s (numbered_is js low) allowed, verdict_is rest (result T s (listed js)) (i + 1) v further)
        ]
