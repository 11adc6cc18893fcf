-- Each layer that differs from its next has fewer pairs, so one of the first n(n+1)/2 + 1 doesn't.
use Rattle.std.proofs.Common.{ℕ, zero, suc, ◌<◌, ◌≤◌, ◌⊎◌, sym, subst, inl, inr, arith}
use mathlib.Core.Logic.Dec
use native.Mathlib.Decide.{ℕ_discrete, dec_le}
use Rattle.sets.specs.Search.{Lowest}
use Rattle.strips.specs.Tasks.{Meaning, Admitted}
use Rattle.strips.specs.Rules.{Says}
use Rattle.layers.specs.Pairs.{pair_count}
use Rattle.layers.specs.Layers.{Layer, Stable}
use Rattle.layers.specs.Bounds.{LayersSettle}
use Rattle.layers.proofs.LayerLaws.{layer_swap, layer_below, stable_all}
use Rattle.layers.proofs.Decisions.{dec_any, dec_layer}
use Rattle.layers.proofs.Counts.{sum, sum_mono, sum_strict, sum_ones, sum_rows, bit, bit_one, bit_mono, bit_strict}

module _ (T : Meaning) (R : Says) (ok : Admitted T) where
  -- a pair that the next layer newly holds
  abbrev Fresh : ℕ → Type 0
  Fresh t = (p : ℕ) × (q : ℕ) × Layer T R (suc t) p q × (Layer T R t p q → ⊥)

  stable_or_fresh : (t : ℕ) → Stable T R t ⊎ Fresh t
  stable_or_fresh t =
      elim (dec_any T.n (λ p. (q : ℕ) × (q < T.n) × (Layer T R (suc t) p q × (Layer T R t p q → ⊥)))
      (λ p. dec_any T.n _ (λ q. Dec.and (dec_layer T R ok (suc t) p q) (Dec.not (dec_layer T R ok t p q))))) [
        | yes (p, lp, (q, lq, (h, out))) ↦ inr (p, q, h, out)
        | no none ↦
            inl (λ p q h. elim (dec_layer T R ok t p q) [
              | yes k ↦ k
              | no out ↦ let (lp, lq) = layer_below T R ok (suc t) p q h in absurd (none (p, lp, (q, lq, (h, out))))
            ])
      ]

  row : ℕ → ℕ → ℕ
  row t q = sum (λ p. bit (dec_layer T R ok t p q)) (suc q)

  count : ℕ → ℕ
  count t = sum (row t) T.n

  row_mono : (t q : ℕ) → row t q ≤ row (suc t) q
  unfolding row
  row_mono t q = sum_mono _ _ (suc q) (λ p. bit_mono inl (dec_layer T R ok t p q) (dec_layer T R ok (suc t) p q))

  row_few : (t q : ℕ) → row t q ≤ suc q
  unfolding row
  row_few t q =
      omega (arith, sum_mono (λ p. bit (dec_layer T R ok t p q)) (λ _. 1) (suc q) (λ p. bit_one (dec_layer T R ok t p q)), sum_ones (suc q))

  count_few : (t : ℕ) → count t ≤ pair_count T.n
  unfolding count
  count_few t = omega (arith, sum_mono (row t) suc T.n (row_few t), sum_rows T.n)

  count_more_at : (t p q : ℕ) → p ≤ q → Layer T R (suc t) p q → (Layer T R t p q → ⊥) → count t < count (suc t)
  unfolding count row
  count_more_at t p q le h out =
      sum_strict (row t) (row (suc t)) T.n q (row_mono t) (layer_below T R ok (suc t) p q h).1
      (sum_strict _ _ (suc q) p (λ i. bit_mono inl (dec_layer T R ok t i q) (dec_layer T R ok (suc t) i q)) (omega arith)
      (bit_strict out h (dec_layer T R ok t p q) (dec_layer T R ok (suc t) p q)))

  count_more : (t : ℕ) → Fresh t → count t < count (suc t)
  count_more t (p, q, h, out) =
      elim (dec_le p q) [
        | yes le ↦ count_more_at t p q le h out
        | no gt ↦ count_more_at t q p (omega arith) (layer_swap T R (suc t) p q h) (λ k. out (layer_swap T R t q p k))
      ]

  count_all : (k : ℕ) → ((t : ℕ) → t < k → Fresh t) → k ≤ count k
  count_all zero h = omega arith
  count_all (suc k) h = omega (arith, count_all k (λ t lt. h t (omega arith)), count_more k (h k (omega arith)))

  seek : (k : ℕ) → ((l : ℕ) × (l < k) × Lowest (Stable T R) l) ⊎ ((t : ℕ) → t < k → Fresh t)
  seek zero = inr (λ t lt. absurd (omega arith))
  seek (suc k) = go (seek k) (stable_or_fresh k)
    where
      go : ((l : ℕ) × (l < k) × Lowest (Stable T R) l) ⊎ ((t : ℕ) → t < k → Fresh t) → Stable T R k ⊎ Fresh k
          → ((l : ℕ) × (l < suc k) × Lowest (Stable T R) l) ⊎ ((t : ℕ) → t < suc k → Fresh t)
      go (inl (l, lt, low)) s = inl (l, omega arith, low)
      go (inr all) (inl st) = inl (k, omega arith, (st, λ i lt st'. let (p, q, h, out) = all i lt in out (st' p q h)))
      go (inr all) (inr new) =
          inr (λ t lt. elim (ℕ_discrete t k) [ yes e ↦ subst Fresh (sym e) new | no ne ↦ all t (omega arith) ])

pub layers_settle : LayersSettle
layers_settle T R ok =
    elim (seek T R ok (suc (pair_count T.n))) [
      | inl (l, lt, low) ↦ (l, record { first = low; soon = omega arith; all = stable_all T R l low.0 })
      | inr all ↦ absurd (omega (arith, count_all T R ok (suc (pair_count T.n)) all, count_few T R ok (suc (pair_count T.n))))
    ]
