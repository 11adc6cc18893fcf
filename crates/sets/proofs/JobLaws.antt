-- The laws of `includes`.
use Rattle.std.proofs.Common.{◌≡◌, ℕ, zero, suc, ◌+◌, ◌-◌, ◌*◌, ◌/◌, ◌%◌, ◌^◌, ◌<◌, ◌≤◌, true, false, ◌||◌, eqb, List, [], ◌∷◌, length, get_or, set, sym, refl, ◌∙◌, inl, inr, arith, get_or-set_other, get_or-set_same}
use mathlib.Core.Bool.{or-false}
use lib.Count.{count_trailing_zeros}
use lib.Pow.{shr_le}
use lib.Bits.{bit_or}
use Rattle.std.proofs.lemmas.List.{get_or_past}
use Rattle.std.proofs.lemmas.Bool.{cases_eq, cases_lt, true≢false, both_ways}
use Rattle.std.proofs.lemmas.Bool.Decides.{nat_tests}
use Rattle.sets.specs.declared.jobs.JobSet.{JobSet}
use Rattle.sets.specs.Digits.{bit}
use Rattle.sets.specs.Jobs.{includes}
use Rattle.sets.specs.Search.{Lowest}
use Rattle.sets.proofs.DigitLaws.{bit-or, bit_pow, bit_zero, bit_shr, bit_past, trailing}

pub includes_insert : (ws : List ℕ) (j k : ℕ) → j / 64 < length ws
    → includes (record { words = set ws (j / 64) (bit_or (get_or ws (j / 64) 0) (2 ^ (j % 64))) }) k ≡ (includes (record { words = ws }) k || eqb k j)
unfolding includes
includes_insert ws j k h =
    elim (cases_eq (k / 64) (j / 64)) [
      | inl e ↦
          let d : eqb (k % 64) (j % 64) ≡ eqb k j = grind (arith, nat_tests) in
          rw (e, get_or-set_same ws (j / 64) _ 0, bit-or, bit_pow, d)
      | inr ne ↦
          let d : eqb k j ≡ false = grind (arith, nat_tests) in
          rw (get_or-set_other, d) (sym (or-false _))
    ]

module _ (s : JobSet) (from w skip : ℕ) (skipped : skip ≡ from - 64 * w) (short : skip < 64) (low : w < 4) (fits : get_or s.words w 0 < 2 ^ 64)
    (before : (j : ℕ) → from ≤ j → j < 64 * w → includes s j ≡ false) where
  -- the jobs of word w that are skipped are below `from`
  none : (j : ℕ) → from ≤ j → j < 64 * w + skip → includes s j ≡ false
  none j h l = elim (cases_lt j (64 * w)) [ inl b ↦ before j h b | inr b ↦ absurd (omega arith) ]

  -- job 64 w + skip + k is digit k of the rest of its word
  at_rest : (j k : ℕ) → j ≡ 64 * w + skip + k → skip + k < 64 → includes s j ≡ bit (get_or s.words w 0 / 2 ^ skip) k
  unfolding includes
  at_rest j k e b =
      let d : j / 64 ≡ w = omega arith in let m : j % 64 ≡ skip + k = omega arith in rw (d, m) (sym (bit_shr (get_or s.words w 0) skip k))

  pub word_none : get_or s.words w 0 / 2 ^ skip ≡ 0 → (j : ℕ) → from ≤ j → j < 64 * (w + 1) → includes s j ≡ false
  word_none z j h b =
      elim (cases_lt j (64 * w + skip)) [
        | inl l ↦ none j h l
        | inr l ↦ at_rest j (j - (64 * w + skip)) (omega arith) (omega arith) ∙ rw z (bit_zero (j - (64 * w + skip)))
      ]

  pub word_next : (get_or s.words w 0 / 2 ^ skip ≡ 0 → ⊥)
      → let at : ℕ = 64 * w + skip + count_trailing_zeros 64 (get_or s.words w 0 / 2 ^ skip) in (at < 256) × Lowest (λ j. (from ≤ j) × (includes s j ≡ true)) at
  word_next ne =
      let n : ℕ = get_or s.words w 0 / 2 ^ skip in
      let le : n ≤ get_or s.words w 0 = shr_le (get_or s.words w 0) skip in
      let (b, yea, off) = trailing n (omega arith) ne in
      let inside : skip + count_trailing_zeros 64 n < 64 =
      elim (cases_lt (skip + count_trailing_zeros 64 n) 64) [
        | inl l ↦ l
        | inr l ↦ absurd (true≢false (sym yea ∙ bit_shr (get_or s.words w 0) skip (count_trailing_zeros 64 n) ∙ bit_past 64 (get_or s.words w 0) (skip + count_trailing_zeros 64 n) fits l))
      ] in
      let first : (j : ℕ) → from ≤ j → j < 64 * w + skip + count_trailing_zeros 64 n → includes s j ≡ false =
      λ j h l. elim (cases_lt j (64 * w + skip)) [
        | inl u ↦ none j h u
        | inr u ↦
            at_rest j (j - (64 * w + skip)) (omega arith) (omega arith) ∙ off (j - (64 * w + skip)) (omega arith)
      ] in (
        omega arith,
        (
          (omega arith, at_rest (64 * w + skip + count_trailing_zeros 64 n) (count_trailing_zeros 64 n) (omega arith) inside ∙ yea),
          λ i l p. both_ways (includes s i) (first i p.0 l) p.1,
        ),
      )

-- four words hold no number from 256 up
pub past_words : (s : JobSet) (j : ℕ) → length s.words ≡ 4 → 256 ≤ j → includes s j ≡ false
unfolding includes
past_words s j four h = let out : length s.words ≤ j / 64 = omega arith in rw (get_or_past s.words (j / 64) 0 out) (bit_zero (j % 64))

-- four words of 0
pub no_jobs : (j : ℕ) → includes (record { words = 0 ∷ 0 ∷ 0 ∷ 0 ∷ [] }) j ≡ false
unfolding includes
no_jobs j = rw (zeros (j / 64)) (bit_zero (j % 64))
  where
    zeros : (i : ℕ) → get_or {A = ℕ} (0 ∷ 0 ∷ 0 ∷ 0 ∷ []) i 0 ≡ 0
    zeros zero = refl
    zeros (suc zero) = refl
    zeros (suc (suc zero)) = refl
    zeros (suc (suc (suc zero))) = refl
    zeros (suc (suc (suc (suc i)))) = refl
