-- The list of a set's facts: it rises and is clean, and it determines the set.
use Rattle.std.proofs.Common.{◌≡◌, ℕ, zero, suc, ◌+◌, ◌^◌, ◌<◌, ◌≤◌, Bool, true, false, not, ◌&&◌, ◌||◌, eqb, ltb, List, [], ◌∷◌, length, get_or, sym, refl, ap, ◌∙◌, inl, inr, arith}
use mathlib.Core.Bool.{and-true}
use mathlib.Core.Path.{fun_ext}
use Rattle.std.specs.Cmp.{both_ways as same_test}
use Rattle.std.proofs.lemmas.Bool.{cases_lt, cases_eq, cases_Bool, both_ways, ne_eqb, eq-eqb, not-true, lt-ltb}
use Rattle.std.proofs.lemmas.Bool.Decides.{nat_tests}
use Rattle.sets.specs.declared.facts.FactSet.{FactSet}
use Rattle.sets.specs.Facts.{has, set_of}
use Rattle.sets.specs.Search.{any, listed}
use Rattle.sets.proofs.SearchLaws.{decides_any}
use Rattle.sets.proofs.FactLaws.{has_below, is_set_of}
use Rattle.strips.specs.Tasks.{Below}
use Rattle.planning.specs.Lists.{clean, at_fault}
use Rattle.files.specs.Sets.{rising, facts_of, Plain, ListFault}

-- a search from the first number on
any_first : (n : ℕ) (p : ℕ → Bool) → any (suc n) p ≡ (p 0 || any n (λ i. p (suc i)))
unfolding any
any_first zero p = refl
any_first (suc n) p = ap (λ (b : Bool). p (suc n) || b) (any_first n p) ∙ turned (p (suc n)) (p 0) (any n (λ i. p (suc i)))
  where
    turned : (x y z : Bool) → (x || (y || z)) ≡ (y || (x || z))
    turned true true z = refl
    turned true false z = refl
    turned false y z = refl

-- what a list has, by its first number
listed_none : (f : ℕ) → listed [] f ≡ false
unfolding listed any
listed_none f = refl

listed_first : (x : ℕ) (xs : List ℕ) (f : ℕ) → listed (x ∷ xs) f ≡ (eqb f x || listed xs f)
unfolding listed
listed_first x xs f = any_first (length xs) (λ i. eqb f (get_or (x ∷ xs) i 0))

-- and by its index
listed_at : (xs : List ℕ) (f : ℕ) → listed xs f ≡ true → (i : ℕ) × (i < length xs) × (get_or xs i 0 ≡ f)
unfolding listed
listed_at xs f there =
    let (i, lt, e) = (decides_any (length xs) (λ i. eqb f (get_or xs i 0))).0 there in (i, lt, grind (arith, nat_tests))

-- a list rises, from k up, and each of its numbers has P
abbrev pub Climbs : (ℕ → Type 0) → ℕ → List ℕ → Type 0
Climbs P k [] = Unit {0}
Climbs P k (x ∷ xs) = (k ≤ x) × P x × Climbs P (suc x) xs

climbs_lower : (P : ℕ → Type 0) (j k : ℕ) (xs : List ℕ) → k ≤ j → Climbs P j xs → Climbs P k xs
climbs_lower P j k [] le c = tt
climbs_lower P j k (x ∷ xs) le (above, has_p, rest) = (omega arith, has_p, rest)

-- each number of such a list
climbs_at : (P : ℕ → Type 0) (k : ℕ) (xs : List ℕ) (i : ℕ) → Climbs P k xs → i < length xs → (k ≤ get_or xs i 0) × P (get_or xs i 0)
climbs_at P k [] i c lt = absurd (omega arith)
climbs_at P k (x ∷ xs) zero (above, has_p, rest) lt = (above, has_p)
climbs_at P k (x ∷ xs) (suc i) (above, has_p, rest) lt = let (more, good) = climbs_at P (suc x) xs i rest (omega arith) in (omega arith, good)

-- each but the last is below the next
climbs_step : (P : ℕ → Type 0) (k : ℕ) (xs : List ℕ) (i : ℕ) → Climbs P k xs → suc i < length xs → get_or xs i 0 < get_or xs (suc i) 0
climbs_step P k [] i c lt = absurd (omega arith)
climbs_step P k (x ∷ xs) zero (_, _, rest) lt = let (more, _) = climbs_at P (suc x) xs 0 rest (omega arith) in omega arith
climbs_step P k (x ∷ xs) (suc i) (_, _, rest) lt = climbs_step P (suc x) xs i rest (omega arith)

-- it has nothing below k
climbs_low : (P : ℕ → Type 0) (k : ℕ) (xs : List ℕ) (f : ℕ) → Climbs P k xs → f < k → listed xs f ≡ false
climbs_low P k xs f c low =
    elim (cases_Bool (listed xs f)) [
      | inl there ↦ absurd (let (i, lt, is) = listed_at xs f there in let (le, _) = climbs_at P k xs i c lt in omega arith)
      | inr off ↦ off
    ]

-- `rising` gives such a list, of numbers that pass the test
pub rising_climbs : (p : ℕ → Bool) (k m : ℕ) → Climbs (λ f. p f ≡ true) k (rising p k m)
unfolding rising
rising_climbs p k zero = tt
rising_climbs p k (suc m) =
    let rest = rising_climbs p (suc k) m in
    elim (cases_Bool (p k)) [ inl here ↦ rw here (omega arith, here, rest) | inr off ↦ rw off (climbs_lower _ (suc k) k _ (omega arith) rest) ]

-- at most as many pass as there are
pub rising_length : (p : ℕ → Bool) (k m : ℕ) → length (rising p k m) ≤ m
unfolding rising
rising_length p k zero = omega arith
rising_length p k (suc m) =
    let rest = rising_length p (suc k) m in
    elim (cases_Bool (p k)) [ inl here ↦ rw here (omega arith) | inr off ↦ rw off (omega arith) ]

-- each number that passes is in the list
rising_listed : (p : ℕ → Bool) (k m f : ℕ) → k ≤ f → f < k + m → p f ≡ true → listed (rising p k m) f ≡ true
unfolding rising
rising_listed p k zero f le lt on = absurd (omega arith)
rising_listed p k (suc m) f le lt on =
    let first = listed_first k (rising p (suc k) m) f in
    elim (cases_eq f k) [
      | inl is ↦ let here : p k ≡ true = ap p (sym is) ∙ on in rw here (grind (arith, nat_tests))
      | inr ne ↦
          let later = rising_listed p (suc k) m f (omega arith) (omega arith) on in
          elim (cases_Bool (p k)) [ inl here ↦ rw here (grind (arith, nat_tests)) | inr off ↦ rw off later ]
    ]

-- what the list of a set's facts has is what the set has
facts_are : (s : FactSet) (f : ℕ) → listed (facts_of s) f ≡ has s f
facts_are s f = same_test (listed (facts_of s) f) (has s f) there (λ h. rising_listed (has s) 0 128 f (omega arith) (let b = has_below s f h in omega arith) h)
  where
    there : listed (facts_of s) f ≡ true → has s f ≡ true
    there l =
        let (i, lt, is) = listed_at (facts_of s) f l in ap (has s) (sym is) ∙ (climbs_at _ 0 (facts_of s) i (rising_climbs (has s) 0 128) lt).1

-- a set that fits its words is nothing but its facts
pub plain : (s : FactSet) → s.low < 2 ^ 64 → s.high < 2 ^ 64 → Plain s
plain s low high = is_set_of s (has s) low high (λ f. refl)

-- sets that are nothing but their facts are equal if their lists of facts are
pub same_facts : (s u : FactSet) → Plain s → Plain u → facts_of s ≡ facts_of u → s ≡ u
same_facts s u ps pu e =
    ps ∙ ap set_of (fun_ext (λ f. sym (facts_are s f) ∙ ap (λ (xs : List ℕ). listed xs f) e ∙ facts_are u f)) ∙ sym pu

-- no number of a clean list is at fault
pub clean_at : (n : ℕ) (xs : List ℕ) (i : ℕ) → clean n xs ≡ true → i < length xs → at_fault n xs i ≡ false
clean_at n xs i c h =
    elim (cases_Bool (at_fault n xs i)) [
      | inl y ↦ absurd (both_ways (any (length xs) (at_fault n xs)) (not-true _ c) ((decides_any (length xs) (at_fault n xs)).1 (i, h, y)))
      | inr off ↦ off
    ]

-- so it has no first fault
pub clean_sound : (k n : ℕ) (xs : List ℕ) (c : ℕ) → clean n xs ≡ true → ListFault k n xs c → ⊥
clean_sound k n xs c is (i, ((h, y), _), _) = both_ways (at_fault n xs i) (clean_at n xs i is h) y

-- and its numbers are below n
clean_low : (n : ℕ) (xs : List ℕ) (i : ℕ) → clean n xs ≡ true → i < length xs → get_or xs i 0 < n
clean_low n xs i c h = let s = clean_at n xs i c h in grind (arith, nat_tests)

-- the facts of a set whose list is clean are below n
pub clean_below : (n : ℕ) (xs : List ℕ) (s : FactSet) → clean n xs ≡ true → facts_of s ≡ xs → Below n s
clean_below n xs s c is f h = let (i, lt, e) = listed_at xs f (let l = facts_are s f ∙ h in rw is at l) in rw e at (clean_low n xs i c lt)

-- and the list of a set whose facts are below n is clean
pub facts_clean : (n : ℕ) (s : FactSet) → Below n s → clean n (facts_of s) ≡ true
facts_clean n s below =
    elim (cases_Bool (any (length (facts_of s)) (at_fault n (facts_of s)))) [
      | inl y ↦ let (i, lt, bad) = (decides_any (length (facts_of s)) (at_fault n (facts_of s))).0 y in absurd (none i lt bad)
      | inr off ↦ ap not off
    ]
  where
    low : (i : ℕ) → i < length (facts_of s) → get_or (facts_of s) i 0 < n
    low i lt = below _ (climbs_at _ 0 (facts_of s) i (rising_climbs (has s) 0 128) lt).1

    none : (i : ℕ) → i < length (facts_of s) → at_fault n (facts_of s) i ≡ true → ⊥
    none zero lt bad = let b = low 0 lt in grind (arith, nat_tests)
    none (suc i) lt bad =
        let b = low (suc i) lt in let step = climbs_step _ 0 (facts_of s) i (rising_climbs (has s) 0 128) lt in grind (arith, nat_tests)

-- a list whose numbers are below n and each above the one before it climbs
climbs : (n k : ℕ) (xs : List ℕ) → ((i : ℕ) → i < length xs → get_or xs i 0 < n)
    → ((i : ℕ) → suc i < length xs → get_or xs i 0 < get_or xs (suc i) 0) → (0 < length xs → k ≤ get_or xs 0 0) → Climbs (λ f. f < n) k xs
climbs n k [] low up first = tt
climbs n k (x ∷ xs) low up first =
    (first (omega arith), low 0 (omega arith), climbs n (suc x) xs (λ i h. low (suc i) (omega arith)) (λ i h. up (suc i) (omega arith)) (λ h. up 0 (omega arith)))

-- the rising list of what a climbing list has is the list
rising_is : (m k n : ℕ) (xs : List ℕ) (p : ℕ → Bool) → k + m ≡ n → Climbs (λ f. f < n) k xs → ((f : ℕ) → k ≤ f → f < n → p f ≡ listed xs f)
    → rising p k m ≡ xs
unfolding rising
rising_is zero k n [] p e c same = refl
rising_is zero k n (x ∷ xs) p e (low, high, _) same = absurd (omega arith)
rising_is (suc m) k n [] p e c same =
    let none : p k ≡ false = same k (omega arith) (omega arith) ∙ listed_none k in
    rw none (rising_is m (suc k) n [] p (omega arith) tt (λ f l h. same f (omega arith) h))
rising_is (suc m) k n (x ∷ xs) p e (low, high, rest) same =
    elim (cases_lt k x) [
      | inl lt ↦
          let none : p k ≡ false = same k (omega arith) (omega arith) ∙ climbs_low _ x (x ∷ xs) k (omega arith, high, rest) lt in
          rw none (rising_is m (suc k) n (x ∷ xs) p (omega arith) (omega arith, high, rest) (λ f l h. same f (omega arith) h))
      | inr ge ↦
          let is : k ≡ x = omega arith in
          let here : p k ≡ true = same k (omega arith) (omega arith) ∙ listed_first x xs k ∙ ap (λ (b : Bool). b || listed xs k) (eq-eqb k x is) in
          rw here
          (ap (λ (y : ℕ). y ∷ rising p (suc k) m) is
          ∙ ap (λ (ys : List ℕ). x ∷ ys)
          (rising_is m (suc k) n xs p (omega arith) (rw is rest)
          (λ f l h. same f (omega arith) h ∙ listed_first x xs f ∙ ap (λ (b : Bool). b || listed xs f) (ne_eqb f x (λ q. omega arith)))))
    ]

-- the members of the set of a clean list of facts are the list
pub facts_listed : (n : ℕ) (xs : List ℕ) (s : FactSet) → n ≤ 128 → clean n xs ≡ true → ((f : ℕ) → has s f ≡ (listed xs f && ltb f 128))
    → facts_of s ≡ xs
facts_listed n xs s few c same =
    rising_is 128 0 128 xs (has s) (omega arith)
    (climbs 128 0 xs (λ i h. let l = clean_low n xs i c h in omega arith) (λ i h. let s = clean_at n xs (suc i) c h in grind (arith, nat_tests)) (λ _. omega arith))
    (λ f l h. same f ∙ ap (λ (b : Bool). listed xs f && b) (lt-ltb f 128 h) ∙ and-true (listed xs f))
