-- Tests that compute, each with what it decides.
use Rattle.std.proofs.Common.{◌≡◌, ℕ, zero, suc, ◌<◌, ◌≤◌, Bool, true, false, not, ◌&&◌, ◌||◌, ltb, List, [], ◌∷◌, length, Some, None, Decides, Option, refl, subst, arith}
use Rattle.std.specs.List.{slice_get}
use Rattle.std.proofs.lemmas.Option.{slice_get_past}
use Rattle.std.proofs.lemmas.Bool.{both_ways, and_parts, and_from, not-true, not_from_false}
use Rattle.std.proofs.lemmas.Bool.Decides.{Decides-below_and, Decides-ltb}
use Rattle.sets.specs.declared.facts.FactSet.{FactSet}
use Rattle.sets.specs.Facts.{has}
use Rattle.sets.specs.Search.{any, Lowest}
use Rattle.sets.proofs.FactLaws.{has_below}
use Rattle.sets.proofs.SearchLaws.{decides_any}
use Rattle.strips.specs.declared.job.Job.{Job}
use Rattle.strips.specs.Tasks.{Admitted, Fair, Below}
use Rattle.layers.specs.Layers.{Pairs, Reached}
use Rattle.cases.specs.Counts.{facts, counting}

-- every number below n passes
abbrev pub every : ℕ → (ℕ → Bool) → Bool
every zero p = true
every (suc n) p = p n && every n p

pub decides_every : (n : ℕ) (p : ℕ → Bool) (P : ℕ → Type 0) → ((k : ℕ) → Decides (p k) (P k)) → Decides (every n p) ((k : ℕ) → k < n → P k)
decides_every n p P each = Decides-below_and p P (λ i. every i p) each refl (λ i. refl) n

pub every_passes : (n : ℕ) (p : ℕ → Bool) → every n p ≡ true → (k : ℕ) → k < n → p k ≡ true
every_passes n p = (decides_every n p (λ k. p k ≡ true) (λ k. ((λ h. h), (λ h. h)))).0

pub decides_some : (n : ℕ) (p : ℕ → Bool) (P : ℕ → Type 0) → ((k : ℕ) → Decides (p k) (P k)) → ((k : ℕ) → P k → k < n) → Decides (any n p) ((k : ℕ) × P k)
decides_some n p P each low = (
  (λ e. let (k, lt, h) = (decides_any n p).0 e in (k, (each k).0 h)),
  (λ (k, h). (decides_any n p).1 (k, low k h, (each k).1 h)),
)

pub decides_if : {P Q : Type 0} (a b : Bool) → Decides a P → Decides b Q → Decides (not a || b) (P → Q)
decides_if true b dp dq = ((λ e _. dq.0 e), (λ f. dq.1 (f (dp.0 refl))))
decides_if false b dp dq = ((λ _ p. absurd (both_ways false refl (dp.1 p))), (λ _. refl))

-- the second test need decide only where the first passes
pub decides_then : {P Q : Type 0} (a b : Bool) → Decides a P → (P → Decides b Q) → Decides (a && b) (P × Q)
decides_then a b dp dq = (
  (λ e. let (x, y) = and_parts a b e in (dp.0 x, (dq (dp.0 x)).0 y)),
  (λ (p, q). and_from a b (dp.1 p) ((dq p).1 q)),
)

pub decides_lowest : (p : ℕ → Bool) (P : ℕ → Type 0) → ((k : ℕ) → Decides (p k) (P k)) → (k : ℕ)
    → (p k && every k (λ i. not (p i))) ≡ true → Lowest P k
decides_lowest p P each k e =
    let (here, before) = and_parts (p k) _ e in (
      (each k).0 here,
      (λ i lt h. both_ways (p i) (not-true (p i) (every_passes k (λ i. not (p i)) before i lt)) ((each i).1 h)),
    )

pub decides_true : (b : Bool) → Decides b (b ≡ true)
decides_true b = ((λ e. e), (λ e. e))

pub decides_false : (b : Bool) → Decides (not b) (b ≡ false)
decides_false b = (not-true b, not_from_false b)

-- there is a job, and it passes
abbrev pub on_job : Option Job → (Job → Bool) → Bool
on_job None p = false
on_job (Some a) p = p a

pub decides_on_job : (o : Option Job) (p : Job → Bool) (P : Job → Type 0) → ((a : Job) → o ≡ Some a → Decides (p a) (P a))
    → Decides (on_job o p) ((a : Job) × (o ≡ Some a) × P a)
decides_on_job None p P each = ((λ e. absurd (both_ways false refl e)), (λ (a, is, h). absurd (let z : ◌≡◌ {A = ℕ} 0 1 = cc in omega arith)))
decides_on_job (Some b) p P each = (
  (λ e. (b, refl, (each b refl).0 e)),
  (λ (a, is, h). let same : a ≡ b = cc in (each b refl).1 (subst P same h)),
)

-- a set of facts below n is reached at the layer that the test L gives
abbrev pub As : (ℕ → ℕ → Bool) → Pairs
As L p q = L p q ≡ true

abbrev pub reached? : ℕ → (ℕ → ℕ → Bool) → (ℕ → Bool) → Bool
reached? n L s = every n (λ p. not (s p) || every n (λ q. not (s q) || L p q))

pub decides_reached : (n : ℕ) (L : ℕ → ℕ → Bool) (s : ℕ → Bool) (S : ℕ → Type 0) → ((f : ℕ) → Decides (s f) (S f)) → ((f : ℕ) → S f → f < n)
    → Decides (reached? n L s) (Reached (As L) S)
decides_reached n L s S each low =
    let (to, from) = decides_every n (λ p. not (s p) || every n (λ q. not (s q) || L p q)) (λ p. S p → (q : ℕ) → q < n → S q → As L p q)
    (λ p. decides_if (s p) _ (each p)
    (decides_every n (λ q. not (s q) || L p q) (λ q. S q → As L p q) (λ q. decides_if (s q) (L p q) (each q) (decides_true (L p q))))) in (
      (λ e p q sp sq. to e p (low p sp) sp q (low q sq) sq),
      (λ h. from (λ p lp sp q lq sq. h p q sp sq)),
    )

-- a task of which every part is tested
abbrev pub below? : ℕ → FactSet → Bool
below? n s = every 128 (λ f. not (has s f) || ltb f n)

below_is : (n : ℕ) (s : FactSet) → below? n s ≡ true → Below n s
below_is n s e f there =
    (decides_every 128 (λ f. not (has s f) || ltb f n) (λ f. has s f ≡ true → f < n)
    (λ f. decides_if (has s f) (ltb f n) (decides_true (has s f)) (Decides-ltb f n))).0 e f (has_below s f there) there

abbrev pub fair? : ℕ → Job → Bool
fair? n a =
    ((below? n a.needs && below? n a.adds) && below? n a.deletes) && every 128 (λ f. not (has a.adds f) || not (has a.deletes f))

fair_is : (n : ℕ) (a : Job) → fair? n a ≡ true → Fair n a
fair_is n a e =
    let (sets-in, apart-are) = and_parts ((below? n a.needs && below? n a.adds) && below? n a.deletes) _ e in
    let (two, deletes-in) = and_parts (below? n a.needs && below? n a.adds) _ sets-in in
    let (needs-in, adds-in) = and_parts (below? n a.needs) _ two in
    record {
      needs = below_is n a.needs needs-in;
      adds = below_is n a.adds adds-in;
      deletes = below_is n a.deletes deletes-in;
      not_both = λ f there.
          (decides_every 128 (λ f. not (has a.adds f) || not (has a.deletes f)) (λ f. has a.adds f ≡ true → has a.deletes f ≡ false)
          (λ f. decides_if (has a.adds f) (not (has a.deletes f)) (decides_true (has a.adds f)) (decides_false (has a.deletes f)))).0 apart-are f
          (has_below a.adds f there) there;
    }

abbrev pub all_fair? : ℕ → List Job → Bool
all_fair? n [] = true
all_fair? n (a ∷ jobs) = fair? n a && all_fair? n jobs

fair_at : (n : ℕ) (jobs : List Job) → all_fair? n jobs ≡ true → (j : ℕ) (a : Job) → slice_get jobs j ≡ Some a → Fair n a
fair_at n [] e j a is = absurd (let z : ◌≡◌ {A = ℕ} 0 1 = cc in omega arith)
fair_at n (b ∷ jobs) e zero a is = let same : b ≡ a = cc in subst (Fair n) same (fair_is n b (and_parts (fair? n b) _ e).0)
fair_at n (b ∷ jobs) e (suc j) a is = fair_at n jobs (and_parts (fair? n b) _ e).1 j a is

pub admitted_is : (n : ℕ) (s g : List ℕ) (jobs : List Job) → 1 ≤ n → n ≤ 128 → length jobs ≤ 255
    → ((below? n (facts s) && below? n (facts g)) && all_fair? n jobs) ≡ true → Admitted (counting n s g jobs)
admitted_is n s g jobs some few few_jobs e =
    let (ends, fair) = and_parts (below? n (facts s) && below? n (facts g)) _ e in
    let (start-in, goal-in) = and_parts (below? n (facts s)) _ ends in
    record {
      some_fact = some;
      few_facts = few;
      few_jobs = few_jobs;
      start = below_is n (facts s) start-in;
      goal = below_is n (facts g) goal-in;
      fair = fair_at n jobs fair;
      absent = λ j le. slice_get_past jobs j le;
    }
