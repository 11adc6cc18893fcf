-- What holds after r rounds of a plan is reached at layer r.
use Rattle.std.proofs.Common.{◌≡◌, ℕ, suc, ◌+◌, ◌<◌, true, false, ◌||◌, ◌⊎◌, List, [], ◌∷◌, length, Some, sym, refl, ap, ◌∙◌, subst, inl, inr, arith}
use Rattle.std.proofs.lemmas.Bool.{both_ways, cases_Bool, cases_eq, and_parts, or_cases, not-true}
use Rattle.sets.specs.Facts.{has}
use Rattle.strips.specs.declared.job.Job.{Job}
use Rattle.strips.specs.Tasks.{Meaning, Admitted}
use Rattle.strips.specs.Rules.{Says}
use Rattle.strips.specs.Rounds.{State, Round, Allowed, some_job, result, PlanFrom}
use Rattle.strips.proofs.PartLaws.{some_found, some_made}
use Rattle.layers.specs.Layers.{Reached, doing, keeping, Enters, by_one, by_two, Layer, GoalAt}
use Rattle.layers.specs.Bounds.{PlansReach}

-- a present job of the round adds the fact
abbrev Adder : Meaning → Round → ℕ → Type 0
Adder T r f = (j : ℕ) × (a : Job) × (r j ≡ true) × (T.job j ≡ Some a) × (has a.adds f ≡ true)

module _ (T : Meaning) (R : Says) (ok : Admitted T) where
  abbrev Within : State → Type 0
  Within s = (f : ℕ) → s f ≡ true → f < T.n

  source : (s : State) (r : Round) (f : ℕ) → result T s r f ≡ true
      → ((s f ≡ true) ⊎ Adder T r f) × (some_job T (λ a. a.deletes) r f ≡ false)
  source s r f h =
      let (up, down) = and_parts (s f || some_job T (λ a. a.adds) r f) _ h in (
        elim (or_cases (s f) _ up) [ inl e ↦ inl e | inr e ↦ inr (some_found T (λ a. a.adds) r f e) ],
        not-true _ down,
      )

  result_below : (s : State) (r : Round) → Within s → Within (result T s r)
  result_below s r low f h =
      elim (source s r f h).0 [
        | inl e ↦ low f e
        | inr (j, a, there, is, fa) ↦ (ok.fair j a is).adds f fa
      ]

  undeleted : (r : Round) (f j : ℕ) (a : Job) → some_job T (λ a. a.deletes) r f ≡ false → r j ≡ true → T.job j ≡ Some a
      → has a.deletes f ≡ false
  undeleted r f j a none there is =
      elim (cases_Bool (has a.deletes f)) [
        | inl d ↦ absurd (both_ways _ none (some_made T (λ a. a.deletes) r ok f j a there is d))
        | inr d ↦ d
      ]

  module _ (t : ℕ) (s : State) (r : Round) (allowed : Allowed T R s r) (low : Within s)
      (reach : (p q : ℕ) → s p ≡ true → s q ≡ true → Layer T R t p q) where
    within : (S : ℕ → Type 0) → ((f : ℕ) → S f → s f ≡ true) → Reached (Layer T R t) S
    within S h p q a b = reach p q (h p a) (h q b)

    one : (j : ℕ) (a : Job) (p q : ℕ) → r j ≡ true → T.job j ≡ Some a → has a.adds p ≡ true → has a.adds q ≡ true
        → Enters T R (Layer T R t) p q
    one j a p q there is pa qa = by_one j a is pa qa (within (λ f. has a.needs f ≡ true) (allowed.held j a there is))

    next_pair : (p q : ℕ) → result T s r p ≡ true → result T s r q ≡ true → Layer T R (suc t) p q
    next_pair p q hp hq = go (source s r p hp).0 (source s r q hq).0
      where
        go : (s p ≡ true) ⊎ Adder T r p → (s q ≡ true) ⊎ Adder T r q → Layer T R (suc t) p q
        go (inl x) (inl y) = inl (reach p q x y)
        go (inl x) (inr (k, b, there, is, qb)) =
            elim (cases_eq p q) [
              | inl e ↦ inr (one k b p q there is (subst (λ (i : ℕ). has b.adds i ≡ true) (sym e) qb) qb)
              | inr ne ↦ inr (by_two (keeping p) (doing k b) (low p x) is (undeleted r p k b (source s r p hp).1 there is) ne
                  (inl refl) (inr qb)
                  (within _ (λ f. elim [ inl e ↦ subst (λ (i : ℕ). s i ≡ true) (sym e) x | inr n ↦ allowed.held k b there is f n ])))
            ]
        go (inr (j, a, there, is, pa)) (inl y) =
            elim (cases_eq p q) [
              | inl e ↦ inr (one j a p q there is pa (subst (λ (i : ℕ). has a.adds i ≡ true) e pa))
              | inr ne ↦ inr (by_two (doing j a) (keeping q) is (low q y) (undeleted r q j a (source s r q hq).1 there is) ne
                  (inl pa) (inr refl)
                  (within _ (λ f. elim [ inl n ↦ allowed.held j a there is f n | inr e ↦ subst (λ (i : ℕ). s i ≡ true) (sym e) y ])))
            ]
        go (inr (j, a, jr, ja, pa)) (inr (k, b, kr, kb, qb)) =
            elim (cases_eq j k) [
              | inl e ↦
                  let same : a ≡ b = (let m : T.job j ≡ Some b = ap T.job e ∙ kb in cc) in
                  inr (one k b p q kr kb (subst (λ (x : Job). has x.adds p ≡ true) same pa) qb)
              | inr jk ↦
                  elim (cases_eq p q) [
                    | inl e ↦ inr (one j a p q jr ja pa (subst (λ (i : ℕ). has a.adds i ≡ true) e pa))
                    | inr ne ↦ inr (by_two (doing j a) (doing k b) ja kb (jk, allowed.shared j k a b jr kr jk ja kb) ne (inl pa) (inr qb)
                        (within _ (λ f. elim [ inl n ↦ allowed.held j a jr ja f n | inr n ↦ allowed.held k b kr kb f n ])))
                  ]
            ]

  reaches_from : (t : ℕ) (s : State) (rs : List Round) → Within s
      → ((p q : ℕ) → s p ≡ true → s q ≡ true → Layer T R t p q) → PlanFrom T R s rs → GoalAt T R (t + length rs)
  reaches_from t s [] low reach h =
      let e : t ≡ t + 0 = omega arith in subst (GoalAt T R) e (λ p q x y. reach p q (h p x) (h q y))
  reaches_from t s (r ∷ rs) low reach (allowed, h) =
      let e : suc t + length rs ≡ t + suc (length rs) = omega arith in
      subst (GoalAt T R) e
      (reaches_from (suc t) (result T s r) rs (result_below s r low) (next_pair t s r allowed low reach) h)

pub plans_reach : PlansReach
plans_reach T R ok rs plan =
    let e : 0 + length rs ≡ length rs = omega arith in
    subst (GoalAt T R) e (reaches_from T R ok 0 (has T.start) rs ok.start (λ p q x y. (x, y)) plan)
