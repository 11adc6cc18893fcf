-- The laws of `bit` and `word`: what digit k of a number is.
use Rattle.std.proofs.Common.{◌≡◌, ℕ, zero, suc, ◌+◌, ◌*◌, ◌/◌, ◌%◌, ◌^◌, ◌<◌, ◌≤◌, Bool, true, false, cond, not, ◌&&◌, ◌||◌, eqb, ltb, sym, ap, ◌∙◌, inl, inr, le_of_suc-le-suc, mod-lt, pow-suc, arith, lit<, shr-shr}
use Rattle.std.proofs.lemmas.Bool.{cases_eq, cases_lt}
use Rattle.std.proofs.lemmas.Bool.Decides.{nat_tests}
use Rattle.std.proofs.lemmas.Nat.{div-add-mod', pow_pos}
use Rattle.std.proofs.lemmas.Nat.Bits.{bit_at-lt, bit_at_and, bit_at_or, bit_at_xor, bit_at-zero, bit_at-suc, bit_at_lowest, bit_at-pow_same, bit_at-pow_other, bit_at_above, bit_at_cat_low, bit_at-trailing_zeros, same_from_bits_below}
use Rattle.std.specs.Int.{bit_at, w64}
use lib.Bits.{bit_and, bit_or, bit_xor}
use lib.Count.{count_trailing_zeros}
use Rattle.sets.specs.Digits.{bit, word}

pub bit-and : (a b k : ℕ) → bit (bit_and a b) k ≡ (bit a k && bit b k)
unfolding bit
bit-and a b k = let l = bit_at_and a b k in let x = bit_at-lt a k in let y = bit_at-lt b k in grind (arith, nat_tests)

pub bit-or : (a b k : ℕ) → bit (bit_or a b) k ≡ (bit a k || bit b k)
unfolding bit
bit-or a b k = let l = bit_at_or a b k in let x = bit_at-lt a k in let y = bit_at-lt b k in grind (arith, nat_tests)

pub bit_less : (a b k : ℕ) → bit (bit_xor a (bit_and a b)) k ≡ (bit a k && not (bit b k))
unfolding bit
bit_less a b k =
    let l = bit_at_xor a (bit_and a b) k in let m = bit_at_and a b k in let x = bit_at-lt a k in let y = bit_at-lt b k in
    grind (arith, nat_tests)

pub bit_zero : (k : ℕ) → bit 0 k ≡ false
unfolding bit
bit_zero k = ap (λ (x : ℕ). eqb x 1) (bit_at-zero k)

-- the word of the digit j alone
pub bit_pow : (j k : ℕ) → bit (2 ^ j) k ≡ eqb k j
unfolding bit
bit_pow j k =
    elim (cases_eq k j) [
      | inl e ↦ let l = bit_at-pow_same j in rw e (grind (arith, nat_tests))
      | inr ne ↦ let l = bit_at-pow_other j k ne in grind (arith, nat_tests)
    ]

-- digits past the width
pub bit_past : (w n k : ℕ) → n < 2 ^ w → w ≤ k → bit n k ≡ false
unfolding bit
bit_past w n k h l = ap (λ (x : ℕ). eqb x 1) (bit_at_above n w k h l)

-- the j low digits
pub bit_mod : (j n k : ℕ) → bit (n % 2 ^ j) k ≡ (ltb k j && bit n k)
unfolding bit
bit_mod j n k =
    elim (cases_lt k j) [
      | inl l ↦
          let low : bit_at n k ≡ bit_at (n % 2 ^ j) k =
          ap (λ (x : ℕ). bit_at x k) (sym (div-add-mod' n (2 ^ j))) ∙ bit_at_cat_low (n / 2 ^ j) j (n % 2 ^ j) k l in
          grind (arith, nat_tests)
      | inr l ↦ let none = bit_at_above (n % 2 ^ j) j k (mod-lt n (pow_pos j)) l in grind (arith, nat_tests)
    ]

pub bit_shr : (n s k : ℕ) → bit (n / 2 ^ s) k ≡ bit n (s + k)
unfolding bit
bit_shr n s k = ap (λ (x : ℕ). eqb (x % 2) 1) (shr-shr n s k)

-- the trailing zeros of a word that is not 0: the place of its lowest digit
pub trailing : (n : ℕ) → n < 2 ^ 64 → (n ≡ 0 → ⊥)
    → (count_trailing_zeros 64 n < 64) × (bit n (count_trailing_zeros 64 n) ≡ true) × ((k : ℕ) → k < count_trailing_zeros 64 n → bit n k ≡ false)
unfolding bit
trailing n h ne =
    let (below, at, before) = bit_at-trailing_zeros w64 n (omega arith) h in
    (below, ap (λ (x : ℕ). eqb x 1) at, λ k l. ap (λ (x : ℕ). eqb x 1) (before k l))

-- two numbers of n digits with the same digits are one number
pub same_digits : (n a b : ℕ) → a < 2 ^ n → b < 2 ^ n → ((k : ℕ) → k < n → bit a k ≡ bit b k) → a ≡ b
unfolding bit
same_digits n a b h l same =
    same_from_bits_below n a b h l (λ k m. let e = same k m in let x = bit_at-lt a k in let y = bit_at-lt b k in grind (arith, nat_tests))

-- a number of w digits with none set is 0
pub none_set : (w n : ℕ) → n < 2 ^ w → ((k : ℕ) → k < w → bit n k ≡ false) → n ≡ 0
none_set w n h off = same_digits w n 0 h (pow_pos w) (λ k l. off k l ∙ sym (bit_zero k))

bit_suc : (n k : ℕ) → bit n (suc k) ≡ bit (n / 2) k
unfolding bit
bit_suc n k = ap (λ (x : ℕ). eqb x 1) (bit_at-suc n k)

bit_first : (n : ℕ) → bit n 0 ≡ eqb (n % 2) 1
unfolding bit
bit_first n = ap (λ (x : ℕ). eqb x 1) (bit_at_lowest n)

-- the number that a test gives
pub bit_word : (n : ℕ) (p : ℕ → Bool) (k : ℕ) → k < n → bit (word n p) k ≡ p k
unfolding word
bit_word zero p k h = absurd (omega arith)
bit_word (suc n) p zero h = bit_first _ ∙ head (p 0)
  where
    head : (b : Bool) → eqb ((cond b 1 0 + 2 * word n (λ k. p (suc k))) % 2) 1 ≡ b
    head true = let e : (1 + 2 * word n (λ k. p (suc k))) % 2 ≡ 1 = omega arith in rw e
    head false = let e : (0 + 2 * word n (λ k. p (suc k))) % 2 ≡ 0 = omega arith in rw e
bit_word (suc n) p (suc k) h =
    bit_suc _ k ∙ ap (λ (x : ℕ). bit x k) (tail (p 0)) ∙ bit_word n (λ i. p (suc i)) k (le_of_suc-le-suc h)
  where
    tail : (b : Bool) → (cond b 1 0 + 2 * word n (λ i. p (suc i))) / 2 ≡ word n (λ i. p (suc i))
    tail true = omega arith
    tail false = omega arith

pub word_lt : (n : ℕ) (p : ℕ → Bool) → word n p < 2 ^ n
unfolding word
word_lt zero p = lit< tt
word_lt (suc n) p = step (p 0) (word_lt n (λ k. p (suc k)))
  where
    step : (b : Bool) → word n (λ k. p (suc k)) < 2 ^ n → cond b 1 0 + 2 * word n (λ k. p (suc k)) < 2 ^ suc n
    step true h = let e = pow-suc 2 n in omega arith
    step false h = let e = pow-suc 2 n in omega arith
