-- Ready jobs, and the facts that may hold beside their adds.
use Rattle.std.proofs.Common.{◌≡◌, ℕ, ◌<◌, Bool, true, false, ◌⊎◌, Some, Decides, refl, inl, inr}
use Rattle.std.proofs.lemmas.Bool.{false≢true}
use Rattle.std.specs.Bool.{then_some}
use Rattle.sets.specs.declared.facts.FactSet.{FactSet}
use Rattle.sets.specs.Facts.{has}
use Rattle.sets.proofs.FactLaws.{has_below}
use Rattle.strips.specs.declared.job.Job.{Job}
use Rattle.strips.specs.Tasks.{Meaning}
use Rattle.layers.specs.Layers.{Reached}
use Rattle.reach.specs.declared.pair_set.PairSet.{PairSet}
use Rattle.reach.specs.PairSets.{paired}
use Rattle.reach.specs.Makings.{In, Common, NeedsReached, ReadyAt}

-- the needs of a job are reached exactly if they are among the facts common to them
module _ (s : PairSet) (a : Job) (c : FactSet) (law : Common s a.needs c) where
  subset_reached : ((f : ℕ) → has a.needs f ≡ true → has c f ≡ true) → NeedsReached (In s) a
  subset_reached sub p q np nq = ((law q).0 (sub q nq)).1 p np

  reached_subset : NeedsReached (In s) a → (f : ℕ) → has a.needs f ≡ true → has c f ≡ true
  reached_subset r f nf = (law f).1 (has_below a.needs f nf, λ p np. r p f np nf)

  pub readied : (T : Meaning) (j : ℕ) (b : Bool) → T.job j ≡ Some a → Decides b ((f : ℕ) → has a.needs f ≡ true → has c f ≡ true)
      → ReadyAt T s j (then_some b (record { job = a; common = c }))
  readied T j true is within = (is, subset_reached (within.0 refl), law)
  readied T j false is within = λ b there reached. let same : b ≡ a = cc in false≢true (within.1 (reached_subset (rw same at reached)))

  -- facts that are common to the needs, and reached together, are reached together with the needs
  module _ (X : ℕ → Type 0) where
    pub joint_reached : NeedsReached (In s) a → ((p q : ℕ) → paired s p q ≡ true → paired s q p ≡ true) → Reached (In s) X
        → ((f : ℕ) → X f → has c f ≡ true) → Reached (In s) (λ f. (has a.needs f ≡ true) ⊎ X f)
    joint_reached ready turn others sub p q (inl x) (inl y) = ready p q x y
    joint_reached ready turn others sub p q (inl x) (inr y) = ((law q).0 (sub q y)).1 p x
    joint_reached ready turn others sub p q (inr x) (inl y) = turn q p (((law p).0 (sub p x)).1 q y)
    joint_reached ready turn others sub p q (inr x) (inr y) = others p q x y

    pub joint_within : ((f : ℕ) → X f → f < 128) → Reached (In s) (λ f. (has a.needs f ≡ true) ⊎ X f) → (f : ℕ) → X f → has c f ≡ true
    joint_within low joint f x = (law f).1 (low f x, λ p np. joint p f (inl np) (inr x))
