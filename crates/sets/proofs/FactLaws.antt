-- The laws of `has` and `set_of`.
use Rattle.std.proofs.Common.{◌≡◌, ℕ, ◌+◌, ◌-◌, ◌%◌, ◌^◌, ◌<◌, ◌≤◌, Bool, true, false, cond, ◌&&◌, eqb, ltb, sym, refl, ap, ◌∙◌, ap₂, inl, inr, arith}
use mathlib.Core.Bool.{and-true}
use lib.Count.{count_trailing_zeros}
use Rattle.std.proofs.lemmas.Bool.{cases_lt, lt-ltb, le-ltb, cond-true, cond-false, both_ways, and_parts, cases_Bool}
use Rattle.std.proofs.lemmas.Bool.Decides.{nat_tests}
use Rattle.sets.specs.declared.facts.FactSet.{FactSet}
use Rattle.sets.specs.Digits.{bit, word}
use Rattle.sets.specs.Facts.{has, set_of}
use Rattle.sets.specs.Search.{any, Lowest}
use Rattle.sets.proofs.SearchLaws.{decides_any}
use Rattle.sets.proofs.DigitLaws.{bit_zero, bit_pow, bit_mod, bit_word, word_lt, same_digits, none_set, trailing}

-- the three ranges of a fact
pub has_low : (s : FactSet) (f : ℕ) → f < 64 → has s f ≡ bit s.low f
unfolding has
has_low s f h = cond-true (ltb f 64) _ _ (lt-ltb f 64 h)

pub has_high : (s : FactSet) (f : ℕ) → 64 ≤ f → f < 128 → has s f ≡ bit s.high (f - 64)
unfolding has
has_high s f le h = cond-false (ltb f 64) _ _ (le-ltb f 64 le) ∙ cond-true (ltb f 128) _ _ (lt-ltb f 128 h)

pub has_past : (s : FactSet) (f : ℕ) → 128 ≤ f → has s f ≡ false
unfolding has
has_past s f le = cond-false (ltb f 64) _ _ (le-ltb f 64 (omega arith)) ∙ cond-false (ltb f 128) _ _ (le-ltb f 128 le)

pub has_below : (s : FactSet) (f : ℕ) → has s f ≡ true → f < 128
has_below s f h = elim (cases_lt f 128) [ inl l ↦ l | inr l ↦ absurd (both_ways (has s f) (has_past s f l) h) ]

-- an operation on the words, digit by digit, is that operation on membership, where it gives nothing from nothing
pub has_op : (op : ℕ → ℕ → ℕ) (o : Bool → Bool → Bool) → ((a b k : ℕ) → bit (op a b) k ≡ o (bit a k) (bit b k)) → o false false ≡ false
    → (a b r : FactSet) → r.low ≡ op a.low b.low → r.high ≡ op a.high b.high → (f : ℕ) → has r f ≡ o (has a f) (has b f)
unfolding has
has_op op o law none a b r low high f =
    rw (low, high, law a.low b.low f, law a.high b.high (f - 64))
    (choose (ltb f 64) (ltb f 128) (bit a.low f) (bit b.low f) (bit a.high (f - 64)) (bit b.high (f - 64)))
  where
    choose : (t w x y u v : Bool) → cond t (o x y) (cond w (o u v) false) ≡ o (cond t x (cond w u false)) (cond t y (cond w v false))
    choose true w x y u v = refl
    choose false true x y u v = refl
    choose false false x y u v = sym none

-- the set of one fact
pub single_low : (f k : ℕ) → f < 64 → has (record { low = 2 ^ f; high = 0 }) k ≡ (eqb k f && ltb k 128)
unfolding has
single_low f k h = let l = bit_pow f k in let z = bit_zero (k - 64) in grind (arith, nat_tests)

pub single_high : (f k : ℕ) → 64 ≤ f → f < 128 → has (record { low = 0; high = 2 ^ (f - 64) }) k ≡ (eqb k f && ltb k 128)
unfolding has
single_high f k h l = let d = bit_pow (f - 64) (k - 64) in let z = bit_zero k in grind (arith, nat_tests)

-- the facts below n
pub below_low : (s : FactSet) (n k : ℕ) → n < 64 → has (record { low = s.low % 2 ^ n; high = 0 }) k ≡ (ltb k n && has s k)
unfolding has
below_low s n k h = let l = bit_mod n s.low k in let z = bit_zero (k - 64) in grind (arith, nat_tests)

pub below_high : (s : FactSet) (n k : ℕ) → 64 ≤ n → has (record { low = s.low; high = s.high % 2 ^ (n - 64) }) k ≡ (ltb k n && has s k)
unfolding has
below_high s n k h = let l = bit_mod (n - 64) s.high (k - 64) in grind (arith, nat_tests)

pub below_all : (s : FactSet) (n k : ℕ) → 128 ≤ n → has s k ≡ (ltb k n && has s k)
below_all s n k h =
    elim (cases_lt k 128) [
      | inl b ↦ grind (arith, nat_tests)
      | inr b ↦ let p = has_past s k b in grind (arith, nat_tests)
    ]

-- the words of a set without members
pub no_words : (s : FactSet) (f : ℕ) → s.low ≡ 0 → s.high ≡ 0 → has s f ≡ false
unfolding has
no_words s f l h = let x = bit_zero f in let y = bit_zero (f - 64) in grind (arith, nat_tests)

pub none_low : (s : FactSet) → s.low < 2 ^ 64 → ((f : ℕ) → has s f ≡ false) → s.low ≡ 0
none_low s h off = none_set 64 s.low h (λ k b. sym (has_low s k b) ∙ off k)

pub none_high : (s : FactSet) → s.high < 2 ^ 64 → ((f : ℕ) → has s f ≡ false) → s.high ≡ 0
none_high s h off =
    none_set 64 s.high h
    (λ k b. let e : 64 + k - 64 ≡ k = omega arith in rw e at (sym (has_high s (64 + k) (omega arith) (omega arith)) ∙ off (64 + k)))

-- a set that isn't empty has a member
pub some_member : (s : FactSet) → (((f : ℕ) → has s f ≡ false) → ⊥) → (f : ℕ) × (has s f ≡ true)
some_member s ne =
    elim (cases_Bool (any 128 (has s))) [
      | inl y ↦ let (f, b, h) = (decides_any 128 (has s)).0 y in (f, h)
      | inr n ↦
          absurd (ne (λ f. elim (cases_Bool (has s f)) [
            | inl h ↦ absurd (both_ways (any 128 (has s)) n ((decides_any 128 (has s)).1 (f, has_below s f h, h)))
            | inr h ↦ h
          ]))
    ]

-- the lowest member, by trailing zeros
pub lowest_low : (s : FactSet) → s.low < 2 ^ 64 → (s.low ≡ 0 → ⊥) → Lowest (λ f. has s f ≡ true) (count_trailing_zeros 64 s.low)
lowest_low s h ne =
    let (below, at, before) = trailing s.low h ne in (
      has_low s (count_trailing_zeros 64 s.low) below ∙ at,
      λ k l. both_ways (has s k) (has_low s k (omega arith) ∙ before k l),
    )

pub lowest_high : (s : FactSet) → s.high < 2 ^ 64 → s.low ≡ 0 → (s.high ≡ 0 → ⊥) → Lowest (λ f. has s f ≡ true) (64 + count_trailing_zeros 64 s.high)
lowest_high s h z ne =
    let (below, at, before) = trailing s.high h ne in
    let e : 64 + count_trailing_zeros 64 s.high - 64 ≡ count_trailing_zeros 64 s.high = omega arith in (
      has_high s (64 + count_trailing_zeros 64 s.high) (omega arith) (omega arith) ∙ ap (bit s.high) e ∙ at,
      λ k l.
          elim (cases_lt k 64) [
            | inl u ↦ both_ways (has s k) (has_low s k u ∙ ap (λ (x : ℕ). bit x k) z ∙ bit_zero k)
            | inr u ↦ both_ways (has s k) (has_high s k u (omega arith) ∙ before (k - 64) (omega arith))
          ],
    )

-- the members of a set given by a test
pub has_set_of : (p : ℕ → Bool) (f : ℕ) → has (set_of p) f ≡ (ltb f 128 && p f)
unfolding set_of
has_set_of p f =
    elim (cases_lt f 64) [
      | inl l ↦ has_low (set_of p) f l ∙ bit_word 64 p f l ∙ sym (ap (λ (b : Bool). b && p f) (lt-ltb f 128 (omega arith)))
      | inr l ↦ elim (cases_lt f 128) [
        | inl u ↦
            let e : 64 + (f - 64) ≡ f = omega arith in
            has_high (set_of p) f l u ∙ bit_word 64 (λ k. p (64 + k)) (f - 64) (omega arith) ∙ ap p e
            ∙ sym (ap (λ (b : Bool). b && p f) (lt-ltb f 128 u))
        | inr u ↦ has_past (set_of p) f u ∙ sym (ap (λ (b : Bool). b && p f) (le-ltb f 128 u))
      ]
    ]

-- the set of every fact
pub all_words : (f : ℕ) → has (record { low = 2 ^ 64 - 1; high = 2 ^ 64 - 1 }) f ≡ ltb f 128
unfolding set_of word
all_words f = has_set_of (λ _. true) f ∙ and-true (ltb f 128)

pub in_set_of : (p : ℕ → Bool) (f : ℕ) → has (set_of p) f ≡ true → p f ≡ true
in_set_of p f h = (and_parts (ltb f 128) (p f) (sym (has_set_of p f) ∙ h)).1

-- two sets with the same members are one set, where their words fit
pub same_members : (s u : FactSet) → s.low < 2 ^ 64 → s.high < 2 ^ 64 → u.low < 2 ^ 64 → u.high < 2 ^ 64
    → ((f : ℕ) → has s f ≡ has u f) → s ≡ u
same_members s u sl sh ul uh same =
    let low : s.low ≡ u.low =
    same_digits 64 s.low u.low sl ul (λ k b. sym (has_low s k b) ∙ same k ∙ has_low u k b) in
    let high : s.high ≡ u.high =
    same_digits 64 s.high u.high sh uh
    (λ k b. let e : 64 + k - 64 ≡ k = omega arith in
    rw e at (sym (has_high s (64 + k) (omega arith) (omega arith)) ∙ same (64 + k) ∙ has_high u (64 + k) (omega arith) (omega arith))) in
    ap₂ {C = FactSet} (λ (x y : ℕ). record { low = x; high = y }) low high

pub is_set_of : (s : FactSet) (p : ℕ → Bool) → s.low < 2 ^ 64 → s.high < 2 ^ 64 → ((f : ℕ) → has s f ≡ p f) → s ≡ set_of p
unfolding set_of
is_set_of s p l h same =
    same_members s (set_of p) l h (word_lt 64 p) (word_lt 64 (λ k. p (64 + k)))
    (λ f. elim (cases_lt f 128) [
      | inl b ↦ same f ∙ sym (has_set_of p f ∙ ap (λ (x : Bool). x && p f) (lt-ltb f 128 b))
      | inr b ↦ has_past s f b ∙ sym (has_past (set_of p) f b)
    ])
