-- The laws of `any`.
use Rattle.std.proofs.Common.{◌≡◌, ℕ, ◌+◌, ◌<◌, ◌≤◌, Bool, true, false, ◌&&◌, ◌||◌, eqb, List, length, get_or, Decides, sym, refl, ap, ◌∙◌, inl, inr, add-one}
use mathlib.Core.Bool.{or-false, or_comm}
use Rattle.std.proofs.lemmas.Bool.Decides.{Decides-below_or, Decides-like, same_from_decides}
use Rattle.std.proofs.lemmas.Bool.{cases_lt, cases_order, both_ways}
use Rattle.sets.specs.Search.{any, listed, Lowest}

pub decides_any : (n : ℕ) (p : ℕ → Bool) → Decides (any n p) ((k : ℕ) × (k < n) × (p k ≡ true))
unfolding any
decides_any n p = Decides-below_or p (λ k. p k ≡ true) (λ i. any i p) (λ k. ((λ h. h), (λ h. h))) refl (λ i. refl) n

-- two searches that differ only where nothing passes
pub any_level : (a b : ℕ) (p : ℕ → Bool) → ((k : ℕ) → a ≤ k → k < b → p k ≡ false) → ((k : ℕ) → b ≤ k → k < a → p k ≡ false) → any a p ≡ any b p
any_level a b p none past =
    same_from_decides (any a p) (any b p) (decides_any a p)
    (Decides-like (any b p) (λ w. moved b a none w) (λ w. moved a b past w) (decides_any b p))
  where
    moved : (x y : ℕ) → ((k : ℕ) → y ≤ k → k < x → p k ≡ false) → (k : ℕ) × (k < x) × (p k ≡ true) → (k : ℕ) × (k < y) × (p k ≡ true)
    moved x y off (k, lt, e) = elim (cases_lt k y) [ inl l ↦ (k, l, e) | inr l ↦ absurd (both_ways (p k) (off k l lt) e) ]

pub any_more : (n : ℕ) (p : ℕ → Bool) → any (n + 1) p ≡ (p n || any n p)
unfolding any
any_more n p = rw add-one

pub any_none : (p : ℕ → Bool) → any 0 p ≡ false
unfolding any
any_none p = refl

pub listed_all : (xs : List ℕ) (i k : ℕ) → i ≡ length xs → any i (λ n. eqb k (get_or xs n 0)) ≡ listed xs k
unfolding listed
listed_all xs i k is = ap (λ (e : ℕ). any e (λ n. eqb k (get_or xs n 0))) is

-- one number more of a list
pub listed_next : (xs : List ℕ) (i k : ℕ) (before after : Bool) → before ≡ any i (λ n. eqb k (get_or xs n 0))
    → after ≡ (before || eqb k (get_or xs i 0)) → after ≡ any (i + 1) (λ n. eqb k (get_or xs n 0))
listed_next xs i k before after so_far more =
    more ∙ or_comm before (eqb k (get_or xs i 0)) ∙ ap (λ (b : Bool). eqb k (get_or xs i 0) || b) so_far ∙ sym (any_more i (λ n. eqb k (get_or xs n 0)))

-- the same, where only numbers that pass t count
pub listed_more : (xs : List ℕ) (i k : ℕ) (before after t : Bool) → before ≡ (any i (λ n. eqb k (get_or xs n 0)) && t)
    → after ≡ (before || (eqb k (get_or xs i 0) && t)) → after ≡ (any (i + 1) (λ n. eqb k (get_or xs n 0)) && t)
listed_more xs i k before after t so_far more =
    more ∙ ap (λ (b : Bool). b || (eqb k (get_or xs i 0) && t)) so_far ∙ joined (any i (λ n. eqb k (get_or xs n 0))) (eqb k (get_or xs i 0)) t
    ∙ sym (ap (λ (b : Bool). b && t) (any_more i (λ n. eqb k (get_or xs n 0))))
  where
    joined : (a e b : Bool) → ((a && b) || (e && b)) ≡ ((e || a) && b)
    joined true true true = refl
    joined true true false = refl
    joined true false true = refl
    joined true false false = refl
    joined false e b = sym (ap (λ (x : Bool). x && b) (or-false e))

-- there is one lowest number
pub lowest_one : (P : ℕ → Type 0) (j k : ℕ) → Lowest P j → Lowest P k → j ≡ k
lowest_one P j k (here, first) (here', first') =
    elim (cases_order j k) [
      | inl same ↦ same
      | inr (inl lt) ↦ absurd (first' j lt here)
      | inr (inr gt) ↦ absurd (first k gt here')
    ]
