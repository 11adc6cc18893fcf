-- Whether a pair is made behind a layer, as a test.
use Rattle.std.proofs.Common.{◌≡◌, ℕ, ◌<◌, Bool, true, false, not, ◌&&◌, ◌||◌, eqb, ltb, ◌⊎◌, Some, Decides, sym, subst, inl, inr}
use Rattle.std.proofs.lemmas.Bool.Decides.{Decides-and, Decides-or, Decides-ltb, Decides-eqb, Decides-like}
use Rattle.sets.specs.Facts.{has}
use Rattle.sets.specs.Search.{any}
use Rattle.strips.specs.declared.job.Job.{Job}
use Rattle.strips.specs.Tasks.{Meaning, Admitted}
use Rattle.strips.specs.Rules.{Says}
use Rattle.strips.proofs.PartLaws.{present_below}
use Rattle.layers.specs.Layers.{Reached}
use Rattle.reach.specs.Makings.{NeedsReached, Beside, added, kept, joined, Made}
use Rattle.cases.proofs.Tests.{decides_some, decides_true, decides_false, decides_then, on_job, decides_on_job, As, reached?, decides_reached}

module _ (T : Meaning) (R : Says) (L : ℕ → ℕ → Bool) where
  abbrev pub kept? : Job → ℕ → Bool
  kept? a q = ltb q T.n && (not (has a.deletes q) && reached? T.n L (λ f. has a.needs f || eqb f q))

  abbrev pub joined? : ℕ → Job → ℕ → ℕ → Bool
  joined? j a q k =
      ltb j k && on_job (T.job k) (λ b. has b.adds q && (R a b && reached? T.n L (λ f. has a.needs f || has b.needs f)))

  abbrev pub beside? : ℕ → Job → ℕ → Bool
  beside? j a q = has a.adds q || (kept? a q || any T.m (joined? j a q))

  abbrev pub made? : ℕ → ℕ → Bool
  made? p q = any T.m (λ j. on_job (T.job j) (λ a. has a.adds p && (reached? T.n L (has a.needs) && beside? j a q)))

  -- facts that job a needs, or of which X holds
  abbrev With : Job → (ℕ → Type 0) → ℕ → Type 0
  With a X f = (has a.needs f ≡ true) ⊎ X f

  abbrev Kept : Job → ℕ → Type 0
  Kept a q = (q < T.n) × ((has a.deletes q ≡ false) × Reached (As L) (With a (λ f. f ≡ q)))

  abbrev Joined : ℕ → Job → ℕ → ℕ → Type 0
  Joined j a q k =
      (j < k)
      × ((b : Job) × (T.job k ≡ Some b)
      × ((has b.adds q ≡ true) × ((R a b ≡ true) × Reached (As L) (With a (λ f. has b.needs f ≡ true)))))

  module _ (ok : Admitted T) where
    module _ (j : ℕ) (a : Job) (is : T.job j ≡ Some a) (q : ℕ) where
      joint : (x : ℕ → Bool) (X : ℕ → Type 0) → ((f : ℕ) → Decides (x f) (X f)) → ((f : ℕ) → X f → f < T.n)
          → Decides (reached? T.n L (λ f. has a.needs f || x f)) (Reached (As L) (With a X))
      joint x X each low =
          decides_reached T.n L (λ f. has a.needs f || x f) (With a X) (λ f. Decides-or _ _ (decides_true (has a.needs f)) (each f))
          (λ f. elim [ inl h ↦ (ok.fair j a is).needs f h | inr h ↦ low f h ])

      dec_kept : Decides (kept? a q) (Kept a q)
      dec_kept =
          decides_then (ltb q T.n) _ (Decides-ltb q T.n)
          (λ lt. Decides-and (not (has a.deletes q)) _ (decides_false (has a.deletes q))
          (joint (λ f. eqb f q) (λ f. f ≡ q) (λ f. Decides-eqb f q) (λ f e. subst (λ (i : ℕ). i < T.n) (sym e) lt)))

      dec_joined : (k : ℕ) → Decides (joined? j a q k) (Joined j a q k)
      dec_joined k =
          Decides-and (ltb j k) _ (Decides-ltb j k)
          (decides_on_job (T.job k) _ _ (λ b k-is.
          Decides-and (has b.adds q) _ (decides_true (has b.adds q))
          (Decides-and (R a b) _ (decides_true (R a b))
          (joint (has b.needs) (λ f. has b.needs f ≡ true) (λ f. decides_true (has b.needs f)) (ok.fair k b k-is).needs))))

      beside_of : (has a.adds q ≡ true) ⊎ (Kept a q ⊎ ((k : ℕ) × Joined j a q k)) → Beside T R (As L) j a q
      beside_of (inl adds) = added adds
      beside_of (inr (inl (lt, (spared, reached)))) = kept lt spared reached
      beside_of (inr (inr (k, (above, (b, k-is, (adds, (shares, reached))))))) = joined k b above k-is shares adds reached

      of_beside : Beside T R (As L) j a q → (has a.adds q ≡ true) ⊎ (Kept a q ⊎ ((k : ℕ) × Joined j a q k))
      of_beside (added adds) = inl adds
      of_beside (kept lt spared reached) = inr (inl (lt, (spared, reached)))
      of_beside (joined k b above k-is shares adds reached) = inr (inr (k, (above, (b, k-is, (adds, (shares, reached))))))

      dec_beside : Decides (beside? j a q) (Beside T R (As L) j a q)
      dec_beside =
          Decides-like _ beside_of of_beside
          (Decides-or (has a.adds q) _ (decides_true (has a.adds q))
          (Decides-or (kept? a q) _ dec_kept
          (decides_some T.m (joined? j a q) (Joined j a q) dec_joined (λ k (above, (b, k-is, _)). present_below T ok k b k-is))))

    module _ (p q : ℕ) where
      abbrev Way : ℕ → Type 0
      Way j = (a : Job) × (T.job j ≡ Some a) × ((has a.adds p ≡ true) × (NeedsReached (As L) a × Beside T R (As L) j a q))

      dec_way : (j : ℕ) → Decides (on_job (T.job j) (λ a. has a.adds p && (reached? T.n L (has a.needs) && beside? j a q))) (Way j)
      dec_way j =
          decides_on_job (T.job j) _ _ (λ a is.
          Decides-and (has a.adds p) _ (decides_true (has a.adds p))
          (Decides-and (reached? T.n L (has a.needs)) _
          (decides_reached T.n L (has a.needs) (λ f. has a.needs f ≡ true) (λ f. decides_true (has a.needs f)) (ok.fair j a is).needs)
          (dec_beside j a is q)))

      pub dec_made : Decides (made? p q) (Made T R (As L) p q)
      dec_made =
          Decides-like _
          (λ (j, (a, is, (adds, (reached, beside)))). record { number = j; job = a; is = is; ready = reached; adds_it = adds; beside = beside })
          (λ x. (x.number, (x.job, x.is, (x.adds_it, (x.ready, x.beside)))))
          (decides_some T.m _ Way dec_way (λ j (a, is, _). present_below T ok j a is))
