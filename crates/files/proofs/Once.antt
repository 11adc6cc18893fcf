-- That checks in a fixed order tell at most one number.
use Rattle.std.proofs.Common.{◌≡◌, ℕ, ◌<◌, ◌⊎◌, ◌≢◌, true, List, sym, ◌∙◌, subst, inl, inr}
use Rattle.sets.proofs.SearchLaws.{lowest_one}
use Rattle.planning.specs.Lists.{clean}
use Rattle.files.specs.Records.{Mark, mark_at, Whole, Due, NotDue, truncated, other_mark}
use Rattle.files.specs.Sets.{ListFault}
use Rattle.files.proofs.FactLists.{clean_sound}
use Rattle.files.proofs.RecordLaws.{due_sound}

-- at most one number is told
abbrev pub Once : (ℕ → Type 0) → Type 0
Once F = (c d : ℕ) → F c → F d → c ≡ d

-- the number k is told because of the fact A
abbrev pub Tells : Type 0 → ℕ → ℕ → Type 0
Tells A k c = A × (c ≡ k)

pub tells_once : {A : Type 0} {k : ℕ} → Once (Tells A k)
tells_once c d (_, e) (_, f) = e ∙ sym f

-- a check tells F; or it passes, so that A holds, and the checks behind it tell G
abbrev pub Else : (ℕ → Type 0) → Type 0 → (ℕ → Type 0) → ℕ → Type 0
Else F A G c = F c ⊎ (A × G c)

pub else_once : {F : ℕ → Type 0} {A : Type 0} {G : ℕ → Type 0} → ((c : ℕ) → A → ¬ F c) → Once F → Once G → Once (Else F A G)
else_once apart f g c d (inl x) (inl y) = f c d x y
else_once apart f g c d (inl x) (inr (a, _)) = absurd (apart c a x)
else_once apart f g c d (inr (a, _)) (inl y) = absurd (apart d a y)
else_once apart f g c d (inr (_, x)) (inr (_, y)) = g c d x y

-- the check of a fact A, with number k
abbrev pub Test : Type 0 → ℕ → (ℕ → Type 0) → ℕ → Type 0
Test A k = Else (Tells (¬ A) k) A

pub test_once : {A : Type 0} {k : ℕ} {G : ℕ → Type 0} → Once G → Once (Test A k G)
test_once = else_once (λ c a (wrong, _). wrong a) tells_once

-- what tells only what G tells, tells at most one number if G does
pub once_by : {F G : ℕ → Type 0} → ((c : ℕ) → F c → G c) → Once G → Once F
once_by to g c d x y = g c d (to c x) (to d y)

-- what is told at the first record that is at fault
pub first_once : (F : ℕ → ℕ → Type 0) → ((i : ℕ) → Once (F i)) → (i j c d : ℕ) → F i c → F j d
    → ((k : ℕ) → k < i → (e : ℕ) → F k e → ⊥) → ((k : ℕ) → k < j → (e : ℕ) → F k e → ⊥) → (i ≡ j) × (c ≡ d)
first_once F once i j c d f g none none' =
    let same : i ≡ j =
    lowest_one (λ (k : ℕ). (e : ℕ) × F k e) i j ((c, f), λ k lt (e, x). none k lt e x) ((d, g), λ k lt (e, x). none' k lt e x) in
    (same, once j c d (subst (λ (k : ℕ). F k c) same f) g)

-- a record that isn't due
not_due_once : (file : List ℕ) (p : ℕ) (k : Mark) → Once (NotDue file p k)
not_due_once file p k = once_by checks (test_once tells_once)
  where
    checks : (c : ℕ) → NotDue file p k c → Test (Whole file p) 1 (Tells (mark_at file p ≢ k) 2) c
    checks c (truncated out e) = inl (out, e)
    checks c (other_mark whole ne e) = inr (whole, (ne, e))

abbrev pub DueTest : List ℕ → ℕ → Mark → (ℕ → Type 0) → ℕ → Type 0
DueTest file p k = Else (NotDue file p k) (Due file p k)

pub due_once : (file : List ℕ) (p : ℕ) (k : Mark) {G : ℕ → Type 0} → Once G → Once (DueTest file p k G)
due_once file p k = else_once (due_sound file p k) (not_due_once file p k)

-- a list of numbers
pub list_fault_once : (k n : ℕ) (xs : List ℕ) → Once (ListFault k n xs)
list_fault_once k n xs c d (i, first, is) (j, first', is') = let same : i ≡ j = lowest_one _ i j first first' in cc

abbrev pub ListTest : ℕ → ℕ → List ℕ → (ℕ → Type 0) → ℕ → Type 0
ListTest k n xs = Else (ListFault k n xs) (clean n xs ≡ true)

pub clean_once : (k n : ℕ) (xs : List ℕ) {G : ℕ → Type 0} → Once G → Once (ListTest k n xs G)
clean_once k n xs = else_once (clean_sound k n xs) (list_fault_once k n xs)
