-- Sums of ones, for counting the pairs of a layer.
use Rattle.std.proofs.Common.{◌≡◌, ℕ, zero, suc, ◌+◌, ◌<◌, ◌≤◌, sym, refl, ap, ◌∙◌, subst, add-one, arith}
use native.Mathlib.Decide.{ℕ_discrete}
use Rattle.layers.specs.Pairs.{pair_count}
use Rattle.layers.proofs.PairLaws.{pair_count_more, pair_count_none}

pub sum : (ℕ → ℕ) → ℕ → ℕ
sum f zero = 0
sum f (suc n) = f n + sum f n

pub sum_mono : (f g : ℕ → ℕ) (n : ℕ) → ((i : ℕ) → f i ≤ g i) → sum f n ≤ sum g n
unfolding sum
sum_mono f g zero h = omega arith
sum_mono f g (suc n) h = omega (arith, h n, sum_mono f g n h)

pub sum_strict : (f g : ℕ → ℕ) (n k : ℕ) → ((i : ℕ) → f i ≤ g i) → k < n → f k < g k → sum f n < sum g n
unfolding sum
sum_strict f g zero k h lt s = absurd (omega arith)
sum_strict f g (suc n) k h lt s =
    elim (ℕ_discrete k n) [
      | yes e ↦ let s' : f n < g n = subst (λ (i : ℕ). f i < g i) e s in omega (arith, sum_mono f g n h)
      | no ne ↦ omega (arith, h n, sum_strict f g n k h (omega arith) s)
    ]

pub sum_ones : (n : ℕ) → sum (λ _. 1) n ≡ n
unfolding sum
sum_ones zero = refl
sum_ones (suc n) = omega (arith, sum_ones n)

pub sum_rows : (n : ℕ) → sum suc n ≡ pair_count n
unfolding sum
sum_rows zero = sym pair_count_none
sum_rows (suc n) = omega (arith, sum_rows n, ap pair_count (sym (add-one n)) ∙ pair_count_more n)

pub bit : {A : Type 0} → Dec A → ℕ
bit (yes a) = 1
bit (no h) = 0

pub bit_one : {A : Type 0} (d : Dec A) → bit d ≤ 1
unfolding bit
bit_one (yes a) = omega arith
bit_one (no h) = omega arith

pub bit_mono : {A B : Type 0} → (A → B) → (d : Dec A) (e : Dec B) → bit d ≤ bit e
unfolding bit
bit_mono f (no h) e = omega arith
bit_mono f (yes a) (yes b) = omega arith
bit_mono f (yes a) (no k) = absurd (k (f a))

pub bit_strict : {A B : Type 0} → (A → ⊥) → B → (d : Dec A) (e : Dec B) → bit d < bit e
unfolding bit
bit_strict h b (yes a) e = absurd (h a)
bit_strict h b (no _) (yes _) = omega arith
bit_strict h b (no _) (no k) = absurd (k b)
