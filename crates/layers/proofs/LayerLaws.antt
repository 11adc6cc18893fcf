-- Layers grow, their pairs have no order, and their facts are the task's.
use Rattle.std.proofs.Common.{◌≡◌, ℕ, zero, suc, ◌<◌, ◌≤◌, sym, subst, inl, inr, arith}
use native.Mathlib.Decide.{dec_le}
use Rattle.strips.specs.Tasks.{Meaning, Admitted}
use Rattle.strips.specs.Rules.{Says}
use Rattle.layers.specs.Layers.{
  Pairs,
  Maker,
  doing,
  keeping,
  IsMaker,
  Needs,
  Adds,
  Enters,
  by_one,
  by_two,
  Layer,
  GoalAt,
  Stable,
}

module _ (T : Meaning) (R : Says) where
  -- what enters behind a layer enters behind a larger one
  pub enters_more : {L M : Pairs} {p q : ℕ} → ((p q : ℕ) → L p q → M p q) → Enters T R L p q → Enters T R M p q
  enters_more up (by_one j a is pa qa n) = by_one j a is pa qa (λ x y hx hy. up x y (n x y hx hy))
  enters_more up (by_two x y xm ym go ne px qx n) = by_two x y xm ym go ne px qx (λ f g hf hg. up f g (n f g hf hg))

  pub layer_up : (t u p q : ℕ) → t ≤ u → Layer T R t p q → Layer T R u p q
  layer_up t zero p q le h = let e : t ≡ 0 = omega arith in subst (λ (i : ℕ). Layer T R i p q) e h
  layer_up t (suc u) p q le h =
      elim (dec_le t u) [
        | yes k ↦ inl (layer_up t u p q k h)
        | no k ↦ let e : t ≡ suc u = omega arith in subst (λ (i : ℕ). Layer T R i p q) e h
      ]

  pub goal_up : (t u : ℕ) → t ≤ u → GoalAt T R t → GoalAt T R u
  goal_up t u le h p q gp gq = layer_up t u p q le (h p q gp gq)

  -- a layer that equals its next holds all that any layer holds
  pub stable_all : (l : ℕ) → Stable T R l → (u p q : ℕ) → Layer T R u p q → Layer T R l p q
  stable_all l st zero p q h = layer_up 0 l p q (omega arith) h
  stable_all l st (suc u) p q (inl h) = stable_all l st u p q h
  stable_all l st (suc u) p q (inr e) = st p q (inr (enters_more (stable_all l st u) e))

  pub enters_swap : {L : Pairs} {p q : ℕ} → Enters T R L p q → Enters T R L q p
  enters_swap (by_one j a is pa qa n) = by_one j a is qa pa n
  enters_swap (by_two x y xm ym go ne px qx n) = by_two x y xm ym go (λ e. ne (sym e)) qx px n

  pub layer_swap : (t p q : ℕ) → Layer T R t p q → Layer T R t q p
  layer_swap zero p q (a, b) = (b, a)
  layer_swap (suc t) p q (inl h) = inl (layer_swap t p q h)
  layer_swap (suc t) p q (inr e) = inr (enters_swap e)

  module _ (ok : Admitted T) where
    pub needs_below : (x : Maker) → IsMaker T x → (f : ℕ) → Needs x f → f < T.n
    needs_below (doing j a) is f h = (ok.fair j a is).needs f h
    needs_below (keeping q) is f h = subst (λ (i : ℕ). i < T.n) (sym h) is

    adds_below : (x : Maker) → IsMaker T x → (f : ℕ) → Adds x f → f < T.n
    adds_below (doing j a) is f h = (ok.fair j a is).adds f h
    adds_below (keeping q) is f h = subst (λ (i : ℕ). i < T.n) (sym h) is

    pub enters_below : (L : Pairs) (p q : ℕ) → Enters T R L p q → (p < T.n) × (q < T.n)
    enters_below L p q (by_one j a is pa qa n) = ((ok.fair j a is).adds p pa, (ok.fair j a is).adds q qa)
    enters_below L p q (by_two x y xm ym go ne px qx n) = (
      elim px [ inl h ↦ adds_below x xm p h | inr h ↦ adds_below y ym p h ],
      elim qx [ inl h ↦ adds_below x xm q h | inr h ↦ adds_below y ym q h ],
    )

    pub layer_below : (t p q : ℕ) → Layer T R t p q → (p < T.n) × (q < T.n)
    layer_below zero p q (a, b) = (ok.start p a, ok.start q b)
    layer_below (suc t) p q (inl h) = layer_below t p q h
    layer_below (suc t) p q (inr e) = enters_below (Layer T R t) p q e
