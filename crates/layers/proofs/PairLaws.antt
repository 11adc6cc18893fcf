-- The entries of pairs: exact, within the table, no two alike.
use Rattle.std.proofs.Common.{◌≡◌, ℕ, zero, suc, ◌+◌, ◌-◌, ◌*◌, ◌<◌, ◌≤◌, sym, refl, ap, ◌∙◌, inl, inr, mul_comm, mul-add, add-one, arith}
use native.Mathlib.Nat.{max_comm, min_comm, max-eq_left, max-eq_right, min-eq_left, min-eq_right}
use native.Mathlib.Decide.{le_ind}
use Rattle.std.proofs.lemmas.Bool.{cases_lt, cases_order}
use Rattle.layers.specs.Pairs.{pair_count, entry_number}

pub pair_count_more : (q : ℕ) → pair_count (q + 1) ≡ pair_count q + q + 1
unfolding pair_count
pair_count_more q = let e : (q + 1) * (q + 1 + 1) ≡ q * (q + 1) + (q + 1) * 2 = omega (arith, mul-add (q + 1) q 2, mul_comm (q + 1) q) in omega arith

pub pair_count_none : pair_count 0 ≡ 0
unfolding pair_count
pair_count_none = refl

pair_count_suc : (q : ℕ) → pair_count (suc q) ≡ pair_count q + q + 1
pair_count_suc q = ap pair_count (sym (add-one q)) ∙ pair_count_more q

-- the entries of the pairs up to q end before those of the next fact begin
pub pair_count_room : (q n : ℕ) → q < n → pair_count q + q < pair_count n
pair_count_room q n h =
    le_ind (λ (k : ℕ). pair_count q + q < pair_count k) (omega (arith, pair_count_suc q)) (λ k b ih. omega (arith, pair_count_suc k)) n h

pub entry_number_up : (p q : ℕ) → p ≤ q → entry_number p q ≡ pair_count q + p
unfolding entry_number
entry_number_up p q h = rw (max-eq_right h, min-eq_left h)

pub entry_number_down : (p q : ℕ) → q ≤ p → entry_number p q ≡ pair_count p + q
unfolding entry_number
entry_number_down p q h = rw (max-eq_left h, min-eq_right h)

pub entry_number_swap : (p q : ℕ) → entry_number p q ≡ entry_number q p
unfolding entry_number
entry_number_swap p q = rw (max_comm p q, min_comm p q)

pub entry_number_below : (p q n : ℕ) → p < n → q < n → entry_number p q < pair_count n
entry_number_below p q n hp hq =
    elim (cases_lt p q) [
      | inl b ↦ omega (arith, entry_number_up p q (omega arith), pair_count_room q n hq)
      | inr b ↦ omega (arith, entry_number_down p q b, pair_count_room p n hp)
    ]

-- with p ≤ q and k ≤ j, equal entries have equal facts
pub entry_number_same : (p q k j : ℕ) → p ≤ q → k ≤ j → pair_count q + p ≡ pair_count j + k → (p ≡ k) × (q ≡ j)
entry_number_same p q k j h l e =
    elim (cases_order q j) [
      | inl s ↦ let r = ap pair_count s in (omega arith, s)
      | inr (inl b) ↦ absurd (omega (arith, pair_count_room q j b))
      | inr (inr b) ↦ absurd (omega (arith, pair_count_room j q b))
    ]

pub pair_count_le : (q n : ℕ) → q ≤ n → pair_count q ≤ pair_count n
pair_count_le q n h =
    le_ind (λ (k : ℕ). pair_count q ≤ pair_count k) (omega arith) (λ k b ih. omega (arith, pair_count_suc k)) n h

pub entry_number_within : (p q n : ℕ) → (entry_number p q < pair_count n → (p < n) × (q < n)) × ((p < n) × (q < n) → entry_number p q < pair_count n)
entry_number_within p q n = (
  λ h. elim (cases_lt p q) [
    | inl b ↦ let u = entry_number_up p q (omega arith) in
        elim (cases_lt q n) [ inl l ↦ (omega arith, l) | inr l ↦ absurd (omega (arith, pair_count_le n q l)) ]
    | inr b ↦ let u = entry_number_down p q b in
        elim (cases_lt p n) [ inl l ↦ (l, omega arith) | inr l ↦ absurd (omega (arith, pair_count_le n p l)) ]
  ],
  λ h. entry_number_below p q n h.0 h.1,
)

-- a task has at most 8,256 pairs
pub pair_count_few : (n : ℕ) → n ≤ 128 → pair_count n ≤ 8256
unfolding pair_count
pair_count_few n h = pair_count_le n 128 h

-- every entry is that of a pair
pub entry_number_onto : (n i : ℕ) → i < pair_count n → (p : ℕ) × (q : ℕ) × (p < n) × (q < n) × (entry_number p q ≡ i)
entry_number_onto zero i lt = absurd (omega (arith, pair_count_none))
entry_number_onto (suc n) i lt =
    let more = pair_count_suc n in
    elim (cases_lt i (pair_count n)) [
      | inl l ↦ let (p, q, lp, lq, e) = entry_number_onto n i l in (p, q, omega arith, omega arith, e)
      | inr far ↦
          let low : i - pair_count n ≤ n = omega arith in
          (i - pair_count n, n, omega arith, omega arith, entry_number_up (i - pair_count n) n low ∙ omega arith)
    ]
