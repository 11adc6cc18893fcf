-- Whether a pair is in a layer can be decided.
use Rattle.std.proofs.Common.{◌≡◌, ℕ, zero, suc, ◌<◌, true, false, ◌≢◌, ◌⊎◌, Some, None, Option, refl, subst, inl, inr, arith}
use mathlib.Core.Bool.{Bool-discrete}
use mathlib.Core.Logic.Dec
use native.Mathlib.Decide.{ℕ_discrete, dec_le, map_dec}
use Rattle.sets.specs.declared.facts.FactSet.{FactSet}
use Rattle.sets.specs.Facts.{has}
use Rattle.strips.specs.declared.job.Job.{Job}
use Rattle.strips.specs.Tasks.{Meaning, Admitted}
use Rattle.strips.specs.Rules.{Says}
use Rattle.strips.proofs.PartLaws.{present_below}
use Rattle.layers.specs.Layers.{
  Pairs,
  Reached,
  Maker,
  doing,
  keeping,
  IsMaker,
  Needs,
  Adds,
  Together,
  Enters,
  by_one,
  by_two,
  Layer,
}
use Rattle.layers.proofs.LayerLaws.{needs_below}

dec_sum : {A B : Type 0} → Dec A → Dec B → Dec (A ⊎ B)
dec_sum (yes a) d = yes (inl a)
dec_sum (no h) (yes b) = yes (inr b)
dec_sum (no h) (no k) = no (λ s. elim s [ inl a ↦ h a | inr b ↦ k b ])

dec_imp : {A B : Type 0} → Dec A → Dec B → Dec (A → B)
dec_imp (no h) d = yes (λ a. absurd (h a))
dec_imp (yes a) (yes b) = yes (λ _. b)
dec_imp (yes a) (no k) = no (λ f. k (f a))

pub dec_any : (n : ℕ) (P : ℕ → Type 0) → ((k : ℕ) → Dec (P k)) → Dec ((k : ℕ) × (k < n) × P k)
dec_any zero P d = no (λ (k, lt, h). omega arith)
dec_any (suc n) P d =
    elim (d n) [
      | yes h ↦ yes (n, omega arith, h)
      | no out ↦
          elim (dec_any n P d) [
            | yes (k, lt, h) ↦ yes (k, omega arith, h)
            | no all ↦ no (λ (k, lt, h). elim (ℕ_discrete k n) [ yes e ↦ out (subst P e h) | no ne ↦ all (k, omega arith, h) ])
          ]
    ]

dec_all : (n : ℕ) (P : ℕ → Type 0) → ((k : ℕ) → Dec (P k)) → Dec ((k : ℕ) → k < n → P k)
dec_all n P d =
    elim (dec_any n (λ k. P k → ⊥) (λ k. Dec.not (d k))) [
      | yes (k, lt, out) ↦ no (λ all. out (all k lt))
      | no none ↦ yes (λ k lt. elim (d k) [ yes h ↦ h | no out ↦ absurd (none (k, lt, out)) ])
    ]

dec_reached : (n : ℕ) (L : Pairs) (S : ℕ → Type 0) → ((f : ℕ) → S f → f < n) → ((f : ℕ) → Dec (S f)) → ((p q : ℕ) → Dec (L p q))
    → Dec (Reached L S)
dec_reached n L S low dS dL =
    map_dec
    (λ h p q sp sq. h p (low p sp) sp q (low q sq) sq)
    (λ h p lp sp q lq sq. h p q sp sq)
    (dec_all n _ (λ p. dec_imp (dS p) (dec_all n _ (λ q. dec_imp (dS q) (dL p q)))))

dec_in : (s : FactSet) (f : ℕ) → Dec (has s f ≡ true)
dec_in s f = Bool-discrete (has s f) true

module _ (T : Meaning) (R : Says) (ok : Admitted T) where
  dec_job : (P : Job → Type 0) (j : ℕ) → ((a : Job) → T.job j ≡ Some a → Dec (P a)) → Dec ((a : Job) × (T.job j ≡ Some a) × P a)
  dec_job P j d = go (T.job j) refl
    where
      go : (o : Option Job) → T.job j ≡ o → Dec ((a : Job) × (T.job j ≡ Some a) × P a)
      go None e = no (λ (a, is, h). let z : ◌≡◌ {A = ℕ} 0 1 = cc in omega arith)
      go (Some a) e =
          elim (d a e) [
            | yes h ↦ yes (a, e, h)
            | no out ↦ no (λ (b, is, h). let same : b ≡ a = cc in out (subst P same h))
          ]

  dec_maker : (P : Maker → Type 0) → ((x : Maker) → IsMaker T x → Dec (P x)) → Dec ((x : Maker) × IsMaker T x × P x)
  dec_maker P d =
      elim (dec_any T.m (λ j. (a : Job) × (T.job j ≡ Some a) × P (doing j a)) (λ j. dec_job (λ a. P (doing j a)) j (λ a is. d (doing j a) is))) [
        | yes (j, lt, (a, is, h)) ↦ yes (doing j a, is, h)
        | no none ↦
            elim (dec_any T.n (λ q. (q < T.n) × P (keeping q)) keep) [
              | yes (q, lt, (low, h)) ↦ yes (keeping q, low, h)
              | no none' ↦ no (λ (x, is, h). out none none' x is h)
            ]
      ]
    where
      keep : (q : ℕ) → Dec ((q < T.n) × P (keeping q))
      keep q =
          elim (dec_le (suc q) T.n) [
            | yes low ↦ map_dec (λ h. (low, h)) (λ h. h.1) (d (keeping q) low)
            | no far ↦ no (λ h. far h.0)
          ]

      out : (((j : ℕ) × (j < T.m) × ((a : Job) × (T.job j ≡ Some a) × P (doing j a))) → ⊥)
          → (((q : ℕ) × (q < T.n) × ((q < T.n) × P (keeping q))) → ⊥) → (x : Maker) → IsMaker T x → P x → ⊥
      out n n' (doing j a) is h = n (j, present_below T ok j a is, (a, is, h))
      out n n' (keeping q) is h = n' (q, is, (is, h))

  dec_adds : (x : Maker) (f : ℕ) → Dec (Adds x f)
  dec_adds (doing j a) f = dec_in a.adds f
  dec_adds (keeping q) f = ℕ_discrete f q

  dec_needs : (x : Maker) (f : ℕ) → Dec (Needs x f)
  dec_needs (doing j a) f = dec_in a.needs f
  dec_needs (keeping q) f = ℕ_discrete f q

  dec_together : (x y : Maker) → Dec (Together R x y)
  dec_together (doing j a) (doing k b) = Dec.and (Dec.not (ℕ_discrete j k)) (Bool-discrete (R a b) true)
  dec_together (doing j a) (keeping q) = Bool-discrete (has a.deletes q) false
  dec_together (keeping q) (doing k b) = Bool-discrete (has b.deletes q) false
  dec_together (keeping p) (keeping q) = yes tt

  module _ (L : Pairs) (dL : (p q : ℕ) → Dec (L p q)) (p q : ℕ) where
    abbrev One : Job → Type 0
    One a = (has a.adds p ≡ true) × ((has a.adds q ≡ true) × Reached L (λ f. has a.needs f ≡ true))

    abbrev Two : Maker → Maker → Type 0
    Two x y = Together R x y × ((p ≢ q) × ((Adds x p ⊎ Adds y p) × ((Adds x q ⊎ Adds y q) × Reached L (λ f. Needs x f ⊎ Needs y f))))

    abbrev Ways : Type 0
    Ways = ((j : ℕ) × (j < T.m) × ((a : Job) × (T.job j ≡ Some a) × One a))
        ⊎ ((x : Maker) × IsMaker T x × ((y : Maker) × IsMaker T y × Two x y))

    ways_in : Ways → Enters T R L p q
    ways_in (inl (j, lt, (a, is, (pa, (qa, n))))) = by_one j a is pa qa n
    ways_in (inr (x, xm, (y, ym, (go, (ne, (px, (qx, n))))))) = by_two x y xm ym go ne px qx n

    ways_out : Enters T R L p q → Ways
    ways_out (by_one j a is pa qa n) = inl (j, present_below T ok j a is, (a, is, (pa, (qa, n))))
    ways_out (by_two x y xm ym go ne px qx n) = inr (x, xm, (y, ym, (go, (ne, (px, (qx, n))))))

    dec_one : (j : ℕ) (a : Job) → T.job j ≡ Some a → Dec (One a)
    dec_one j a is =
        Dec.and (dec_in a.adds p) (Dec.and (dec_in a.adds q)
        (dec_reached T.n L _ (ok.fair j a is).needs (dec_in a.needs) dL))

    dec_two : (x y : Maker) → IsMaker T x → IsMaker T y → Dec (Two x y)
    dec_two x y xm ym =
        Dec.and (dec_together x y) (Dec.and (Dec.not (ℕ_discrete p q))
        (Dec.and (dec_sum (dec_adds x p) (dec_adds y p)) (Dec.and (dec_sum (dec_adds x q) (dec_adds y q))
        (dec_reached T.n L _ (λ f. elim [ inl h ↦ needs_below T R ok x xm f h | inr h ↦ needs_below T R ok y ym f h ])
        (λ f. dec_sum (dec_needs x f) (dec_needs y f)) dL))))

    dec_enters : Dec (Enters T R L p q)
    dec_enters =
        map_dec ways_in ways_out
        (dec_sum (dec_any T.m _ (λ j. dec_job One j (dec_one j)))
        (dec_maker _ (λ x xm. dec_maker _ (λ y ym. dec_two x y xm ym))))

  pub dec_layer : (t p q : ℕ) → Dec (Layer T R t p q)
  dec_layer zero p q = Dec.and (dec_in T.start p) (dec_in T.start q)
  dec_layer (suc t) p q = dec_sum (dec_layer t p q) (dec_enters (Layer T R t) (dec_layer t) p q)
