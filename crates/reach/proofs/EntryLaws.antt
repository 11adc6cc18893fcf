-- The numbers of entries: small, and one for each pair.
use Rattle.std.proofs.Common.{◌≡◌, ℕ, ◌<◌, ◌≤◌, ◌⊎◌, sym, ◌∙◌, inl, inr, arith}
use Rattle.std.proofs.lemmas.Bool.{cases_lt}
use Rattle.layers.specs.Pairs.{pair_count, entry_number}
use Rattle.layers.proofs.PairLaws.{pair_count_le, entry_number_up, entry_number_down, entry_number_swap, entry_number_same, entry_number_below}

pub pair_count_small : (n : ℕ) → n ≤ 256 → pair_count n ≤ 32896
unfolding pair_count
pair_count_small n h = pair_count_le n 256 h

pub entry_number_small : (p q : ℕ) → p < 256 → q < 256 → entry_number p q < 32896
unfolding pair_count
entry_number_small p q hp hq = entry_number_below p q 256 hp hq

-- two pairs with one entry are one pair
up_alike : (p q x y : ℕ) → p ≤ q → entry_number x y ≡ entry_number p q → ((x ≡ p) × (y ≡ q)) ⊎ ((x ≡ q) × (y ≡ p))
up_alike p q x y h e =
    elim (cases_lt y x) [
      | inl b ↦ let s = entry_number_same y x p q (omega arith) h (sym (entry_number_down x y (omega arith)) ∙ e ∙ entry_number_up p q h) in inr (s.1, s.0)
      | inr b ↦ let s = entry_number_same x y p q b h (sym (entry_number_up x y b) ∙ e ∙ entry_number_up p q h) in inl (s.0, s.1)
    ]

pub entry_number_alike : (p q x y : ℕ) → entry_number x y ≡ entry_number p q → ((x ≡ p) × (y ≡ q)) ⊎ ((x ≡ q) × (y ≡ p))
entry_number_alike p q x y e =
    elim (cases_lt q p) [
      | inl b ↦ elim (up_alike q p x y (omega arith) (e ∙ entry_number_swap p q)) [ inl s ↦ inr s | inr s ↦ inl s ]
      | inr b ↦ up_alike p q x y b e
    ]
