-- The pairs that the ready jobs of a list make are those that a round makes; and these are the pairs that enter.
use Rattle.std.proofs.Common.{◌≡◌, ℕ, ◌+◌, ◌-◌, ◌<◌, ◌≤◌, Bool, true, false, ◌&&◌, ◌||◌, ◌≢◌, ◌⊎◌, List, length, get_or, drop, Some, None, Any, Decides, Option, IsSomeAnd, sym, refl, ◌∙◌, inl, inr, arith}
use Rattle.std.proofs.Math.Logic.{⊎_swap}
use Rattle.std.proofs.lemmas.List.{length-drop, get_or-drop, get_or_default}
use Rattle.std.proofs.lemmas.Bool.{cases_eq, cases_order, or_cases, or_left, or_right, and_parts, and_from, not-true, not_from_false}
use Rattle.std.proofs.lemmas.Bool.Decides.{Decides-like}
use Rattle.sets.specs.declared.facts.FactSet.{FactSet}
use Rattle.sets.specs.Facts.{has}
use Rattle.sets.proofs.FactLaws.{has_below}
use Rattle.strips.specs.declared.job.Job.{Job}
use Rattle.strips.specs.Tasks.{Meaning, Admitted}
use Rattle.strips.specs.Rules.{Says, Lawful}
use Rattle.strips.proofs.PartLaws.{present_below}
use Rattle.layers.specs.Layers.{Pairs, Reached, Maker, doing, keeping, IsMaker, Adds, Needs, Together, Enters, by_one, by_two}
use Rattle.reach.specs.declared.pair_set.PairSet.{PairSet}
use Rattle.reach.specs.declared.ready.Ready.{Ready}
use Rattle.reach.specs.PairSets.{paired}
use Rattle.reach.specs.Makings.{In, Common, NeedsReached, ReadyAt, ReadyJobs, adds_or_keeps, Helps, Beside, added, kept, joined, Made}
use Rattle.reach.proofs.MakingLaws.{joint_reached, joint_within}

-- two sets of facts that are reached together
module _ {L : Pairs} {X : ℕ → Type 0} {Y : ℕ → Type 0} (joint : Reached L (λ f. X f ⊎ Y f)) where
  first_reached : Reached L X
  first_reached p q hp hq = joint p q (inl hp) (inl hq)

  second_reached : Reached L Y
  second_reached p q hp hq = joint p q (inr hp) (inr hq)

  turned : Reached L (λ f. Y f ⊎ X f)
  turned p q hp hq = joint p q (⊎_swap hp) (⊎_swap hq)

-- some element behind the first n
any_behind : {X : Type 0} (P : X → Type 0) (xs : List X) (n k : ℕ) (d : X) → n ≤ k → k < length xs → P (get_or xs k d) → Any P (drop n xs)
any_behind P xs n k d le lt holds =
    (k - n, get_or xs k d, omega (arith, length-drop n xs), grind (arith, get_or-drop, get_or_default xs k (get_or xs k d) d lt), holds)

behind_any : {X : Type 0} (P : X → Type 0) (xs : List X) (n : ℕ) (d : X) → Any P (drop n xs) → (k : ℕ) × (n ≤ k) × (k < length xs) × P (get_or xs k d)
behind_any P xs n d (i, x, lt, is, holds) =
    let long = length-drop n xs in
    let same : get_or xs (n + i) d ≡ x = (let e = get_or_default xs (n + i) d x (omega arith) in grind (arith, get_or-drop)) in
    (n + i, omega arith, omega arith, rw same holds)

-- the facts found beside the ready job x: its adds and what it keeps, and the adds of the jobs behind it that join it
abbrev pub NextTo : Says → FactSet → List (Option Ready) → Ready → ℕ → Type 0
NextTo R singles others x q = (adds_or_keeps x singles q ≡ true) ⊎ Any (Helps R x q) others

-- o has a ready job that adds p, and q is found beside it
abbrev Makes : Says → FactSet → List (Option Ready) → ℕ → ℕ → Option Ready → Type 0
Makes R singles others p q o = IsSomeAnd o (λ x. (has x.job.adds p ≡ true) × NextTo R singles others x q)

-- place j of the list rs has one, and the others are those behind it
abbrev pub MakesAt : Says → FactSet → List (Option Ready) → ℕ → ℕ → ℕ → Type 0
MakesAt R singles rs p q j = Makes R singles (drop (j + 1) rs) p q (get_or rs j None)

-- one place more
one_more : (P : ℕ → Type 0) (j : ℕ) (b here b' : Bool) → Decides b ((i : ℕ) × (i < j) × P i) → Decides here (P j) → b' ≡ (b || here)
    → Decides b' ((i : ℕ) × (i < j + 1) × P i)
one_more P j b here b' before at law = grind arith

-- the pairs that the ready jobs before place j make, and then those of the job there too
pub made_more : (R : Says) (singles : FactSet) (rs : List (Option Ready)) (j : ℕ) (made made' : PairSet) (own : Ready) (beside facts : FactSet)
    → ((p q : ℕ) → Decides (paired made p q) ((i : ℕ) × (i < j) × MakesAt R singles rs p q i)) → get_or rs j None ≡ Some own
    → ((q : ℕ) → has beside q ≡ adds_or_keeps own singles q)
    → ((q : ℕ) → Decides (has facts q) ((has beside q ≡ true) ⊎ Any (Helps R own q) (drop (j + 1) rs)))
    → ((p q : ℕ) → paired made' p q ≡ (paired made p q || (has own.job.adds p && has facts q)))
    → (p q : ℕ) → Decides (paired made' p q) ((i : ℕ) × (i < j + 1) × MakesAt R singles rs p q i)
made_more R singles rs j made made' own beside facts so_far is own-facts found joins p q =
    let from = own-facts q in
    let next = found q in
    let here : Decides (has own.job.adds p && has facts q) (MakesAt R singles rs p q j) = grind arith in
    one_more (MakesAt R singles rs p q) j (paired made p q) (has own.job.adds p && has facts q) (paired made' p q) (so_far p q) here (joins p q)

module _ (T : Meaning) (R : Says) (ok : Admitted T) (s : PairSet) (rs : List (Option Ready)) (ready : ReadyJobs T s rs)
    (turn : (p q : ℕ) → paired s p q ≡ true → paired s q p ≡ true) (low : (f : ℕ) → paired s f f ≡ true → f < T.n)
    (singles : FactSet) (alone : (f : ℕ) → has singles f ≡ paired s f f) where
  module _ (j : ℕ) (x : Ready) (reached : NeedsReached (In s) x.job) (common : Common s x.job.needs x.common) (q : ℕ) where
    beside_found : NextTo R singles (drop (j + 1) rs) x q → Beside T R (In s) j x.job q
    beside_found (inl own) =
        elim (or_cases (has x.job.adds q) _ own) [
          | inl adds ↦ added adds
          | inr rest ↦
              let (both, spared) = and_parts (has x.common q && has singles q) _ rest in
              let (there, single) = and_parts (has x.common q) _ both in
              let pair = sym (alone q) ∙ single in
              kept (low q pair) (not-true _ spared)
              (joint_reached s x.job x.common common (λ f. f ≡ q) reached turn (λ f g d e. rw (d, e) pair) (λ f e. rw e there))
        ]
    beside_found (inr some) =
        let (k, above, lt, helps) = behind_any (Helps R x q) rs (j + 1) None some in
        go k (omega arith) (get_or rs k None) (ready.each k lt) helps
      where
        go : (k : ℕ) → j < k → (o : Option Ready) → ReadyAt T s k o → Helps R x q o → Beside T R (In s) j x.job q
        go k above None _ helps = absurd helps
        go k above (Some y) (y-is, y-reached, _) (joins, adds) =
            joined k y.job above y-is joins.shares adds
            (joint_reached s x.job x.common common (λ f. has y.job.needs f ≡ true) reached turn y-reached joins.within)

    beside_made : Beside T R (In s) j x.job q → NextTo R singles (drop (j + 1) rs) x q
    beside_made (added adds) = inl (or_left _ _ adds)
    beside_made (kept below spared joint) =
        let few = ok.few_facts in
        inl (or_right (has x.job.adds q) _
        (and_from _ _
        (and_from _ _ (joint_within s x.job x.common common (λ f. f ≡ q) (λ f e. omega arith) joint q refl) (alone q ∙ joint q q (inr refl) (inr refl)))
        (not_from_false _ spared)))
    beside_made (joined k b above k-is shares adds joint) =
        let enough = ready.enough in
        let lt = present_below T ok k b k-is in
        inr (any_behind (Helps R x q) rs (j + 1) k None (omega arith) (omega arith) (go (get_or rs k None) (ready.each k (omega arith))))
      where
        go : (o : Option Ready) → ReadyAt T s k o → Helps R x q o
        go None out = absurd (out b k-is (second_reached joint))
        go (Some y) (y-is, _, _) =
            let same : b ≡ y.job = cc in
            (record { within = rw same at (joint_within s x.job x.common common (λ f. has b.needs f ≡ true) (has_below b.needs) joint); shares = rw same at shares }, rw same at adds)

  made_found : (p q j : ℕ) → j < length rs → MakesAt R singles rs p q j → Made T R (In s) p q
  made_found p q j lt makes = go (get_or rs j None) (ready.each j lt) makes
    where
      go : (o : Option Ready) → ReadyAt T s j o → Makes R singles (drop (j + 1) rs) p q o → Made T R (In s) p q
      go None _ makes = absurd makes
      go (Some x) (is, reached, common) (adds, next) =
          record { number = j; job = x.job; is = is; ready = reached; adds_it = adds; beside = beside_found j x reached common q next }

  found_made : (p q : ℕ) → Made T R (In s) p q → (j : ℕ) × (j < length rs) × MakesAt R singles rs p q j
  found_made p q made =
      let enough = ready.enough in
      let low = present_below T ok made.number made.job made.is in
      (made.number, omega arith, go (get_or rs made.number None) (ready.each made.number (omega arith)))
    where
      go : (o : Option Ready) → ReadyAt T s made.number o → Makes R singles (drop (made.number + 1) rs) p q o
      go None out = absurd (out made.job made.is made.ready)
      go (Some x) (is, reached, common) =
          let is-made = made.is in
          let same : made.job ≡ x.job = cc in
          (rw same at made.adds_it, beside_made made.number x reached common q (rw same at made.beside))

  -- what the ready jobs of the whole list make is what is made
  pub made_all : (n : ℕ) → n ≡ length rs → (p q : ℕ) (b : Bool) → Decides b ((j : ℕ) × (j < n) × MakesAt R singles rs p q j) → Decides b (Made T R (In s) p q)
  made_all n whole p q b all =
      Decides-like b (λ (j, lt, makes). made_found p q j (omega arith) makes)
      (λ made. let (j, lt, makes) = found_made p q made in (j, omega arith, makes)) all

-- what is made enters, and what enters is made in one order or the other, or is reached already
module _ (T : Meaning) (R : Says) (L : Pairs) where
  two : (j : ℕ) (a : Job) (y : Maker) (p q : ℕ) → T.job j ≡ Some a → NeedsReached L a → IsMaker T y
      → Together R (doing j a) y → has a.adds p ≡ true → Adds y q
      → Reached L (λ f. (has a.needs f ≡ true) ⊎ Needs y f) → Enters T R L p q
  two j a y p q is reached ym go pa qy joint =
      elim (cases_eq p q) [
        | inl e ↦ by_one j a is pa (rw e at pa) reached
        | inr ne ↦ by_two (doing j a) y is ym go ne (inl pa) (inr qy) joint
      ]

  made_enters : (p q j : ℕ) (a : Job) → T.job j ≡ Some a → NeedsReached L a → has a.adds p ≡ true → Beside T R L j a q → Enters T R L p q
  made_enters p q j a is reached pa (added qa) = by_one j a is pa qa reached
  made_enters p q j a is reached pa (kept low spared joint) = two j a (keeping q) p q is reached low spared pa refl joint
  made_enters p q j a is reached pa (joined k b above k-is shares adds joint) =
      two j a (doing k b) p q is reached k-is ((λ e. omega arith), shares) pa adds joint

  pub enters_if_made : (p q : ℕ) → Made T R L p q → Enters T R L p q
  enters_if_made p q x = made_enters p q x.number x.job x.is x.ready x.adds_it x.beside

  module _ (law : Lawful R) where
    one : (p q j : ℕ) (a : Job) → T.job j ≡ Some a → has a.adds p ≡ true → has a.adds q ≡ true → NeedsReached L a → Made T R L p q
    one p q j a is pa qa reached = record { number = j; job = a; is = is; ready = reached; adds_it = pa; beside = added qa }

    by_keeping : (p q j : ℕ) (a : Job) → T.job j ≡ Some a → has a.adds p ≡ true → q < T.n → has a.deletes q ≡ false
        → Reached L (λ f. (has a.needs f ≡ true) ⊎ (f ≡ q)) → Made T R L p q
    by_keeping p q j a is pa low spared joint =
        record { number = j; job = a; is = is; ready = first_reached joint; adds_it = pa; beside = kept low spared joint }

    abbrev Either : ℕ → ℕ → Type 0
    Either p q = Made T R L p q ⊎ (Made T R L q p ⊎ L p q)

    -- two jobs, the first of which adds p and the second q
    by_jobs : (p q j k : ℕ) (a b : Job) → T.job j ≡ Some a → T.job k ≡ Some b → j ≢ k → R a b ≡ true
        → has a.adds p ≡ true → has b.adds q ≡ true → Reached L (λ f. (has a.needs f ≡ true) ⊎ (has b.needs f ≡ true)) → Either p q
    by_jobs p q j k a b ja kb ne shares pa qb joint =
        elim (cases_order j k) [
          | inl e ↦ absurd (ne e)
          | inr (inl lt) ↦ inl record { number = j; job = a; is = ja; ready = first_reached joint; adds_it = pa; beside = joined k b lt kb shares qb joint }
          | inr (inr lt) ↦
              inr (inl record {
                number = k;
                job = b;
                is = kb;
                ready = second_reached joint;
                adds_it = qb;
                beside = joined j a lt ja (sym (law.symmetric a b) ∙ shares) pa (turned joint);
              })
        ]

    -- a job and a fact kept
    job_and_kept : (p q j x : ℕ) (a : Job) → T.job j ≡ Some a → x < T.n → has a.deletes x ≡ false → p ≢ q
        → (has a.adds p ≡ true) ⊎ (p ≡ x) → (has a.adds q ≡ true) ⊎ (q ≡ x)
        → Reached L (λ f. (has a.needs f ≡ true) ⊎ (f ≡ x)) → Either p q
    job_and_kept p q j x a is low spared ne (inl pa) (inl qa) joint = inl (one p q j a is pa qa (first_reached joint))
    job_and_kept p q j x a is low spared ne (inl pa) (inr e) joint = inl (rw e (by_keeping p x j a is pa low spared joint))
    job_and_kept p q j x a is low spared ne (inr e) (inl qa) joint = inr (inl (rw e (by_keeping q x j a is qa low spared joint)))
    job_and_kept p q j x a is low spared ne (inr d) (inr e) joint = absurd (ne (d ∙ sym e))

    pub made_if_enters : (p q : ℕ) → Enters T R L p q → Either p q
    made_if_enters p q (by_one j a is pa qa reached) = inl (one p q j a is pa qa reached)
    made_if_enters p q (by_two (doing j a) (doing k b) ja kb (ne, shares) pq (inl pa) (inl qa) joint) =
        inl (one p q j a ja pa qa (first_reached joint))
    made_if_enters p q (by_two (doing j a) (doing k b) ja kb (ne, shares) pq (inr pb) (inr qb) joint) =
        inl (one p q k b kb pb qb (second_reached joint))
    made_if_enters p q (by_two (doing j a) (doing k b) ja kb (ne, shares) pq (inl pa) (inr qb) joint) =
        by_jobs p q j k a b ja kb ne shares pa qb joint
    made_if_enters p q (by_two (doing j a) (doing k b) ja kb (ne, shares) pq (inr pb) (inl qa) joint) =
        by_jobs p q k j b a kb ja (λ e. ne (sym e)) (sym (law.symmetric a b) ∙ shares) pb qa (turned joint)
    made_if_enters p q (by_two (doing j a) (keeping x) ja low spared pq ps qs joint) = job_and_kept p q j x a ja low spared pq ps qs joint
    made_if_enters p q (by_two (keeping x) (doing k b) low kb spared pq ps qs joint) =
        job_and_kept p q k x b kb low spared pq (⊎_swap ps) (⊎_swap qs) (turned joint)
    made_if_enters p q (by_two (keeping x) (keeping y) lx ly go pq ps qs joint) = inr (inr (joint p q ps qs))
