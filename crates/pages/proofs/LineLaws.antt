-- Numbers at the right of three bytes, and what several writes make.
use Rattle.std.proofs.Common.{◌≡◌, ℕ, zero, suc, ◌+◌, ◌-◌, ◌/◌, ◌%◌, ◌^◌, ◌<◌, ◌≤◌, List, [], ◌∷◌, ◌++◌, length, take, drop, replicate, sym, refl, ap, subst, ◌∙◌, inl, inr, arith, length-append}
use Rattle.std.specs.Prelude.{decimal}
use Rattle.std.proofs.lemmas.Bool.{cases_lt}
use Rattle.std.proofs.lemmas.Fmt.{decimal_digit, decimal_step}
use Rattle.std.proofs.lemmas.Grind.{common_steps}
use Rattle.std.proofs.lemmas.List.{take-replicate, drop-replicate}
use Rattle.std.proofs.lemmas.List.Edits.{paste_all, paste-paste}
use lib.Seq.{paste}
use Rattle.pages.specs.Pages.{right, left, Wrote}

last_digit : (n : ℕ) → n < 10 → n ≡ n % 10
last_digit n lt = omega arith

pub right_one : (n : ℕ) → n < 10 → right 3 (decimal n) ≡ 32 ∷ (32 ∷ ((48 + n % 10) ∷ []))
right_one n lt = rw (decimal_digit n lt, ← last_digit n lt) refl

pub right_two : (n : ℕ) → 10 ≤ n → n < 100 → right 3 (decimal n) ≡ 32 ∷ ((48 + n / 10 % 10) ∷ ((48 + n % 10) ∷ []))
right_two n ge lt =
    let small : n / 10 < 10 = omega arith in
    rw (decimal_step n ge (omega arith), decimal_digit (n / 10) small, ← last_digit (n / 10) small) refl

-- the last three of more bytes
last_three : (xs : List ℕ) (a b c : ℕ) → right 3 (((xs ++ (a ∷ [])) ++ (b ∷ [])) ++ (c ∷ [])) ≡ a ∷ (b ∷ (c ∷ []))
last_three xs a b c = grind (arith, common_steps)

-- the last digit is the number's last
ends : (n : ℕ) → n < 2 ^ 16 → (xs : List ℕ) × (decimal n ≡ xs ++ ((48 + n % 10) ∷ []))
ends n lt =
    elim (cases_lt n 10) [
      | inl small ↦ ([], decimal_digit n small ∙ ap (λ (k : ℕ). (48 + k) ∷ []) (last_digit n small))
      | inr ge ↦ (decimal (n / 10), decimal_step n ge (omega arith))
    ]

pub right_three : (n : ℕ) → 100 ≤ n → n < 2 ^ 16 → right 3 (decimal n) ≡ (48 + n / 100 % 10) ∷ ((48 + n / 10 % 10) ∷ ((48 + n % 10) ∷ []))
right_three n ge lt =
    let (xs, e) = ends (n / 10 / 10) (omega arith) in
    let hundreds : n / 10 / 10 ≡ n / 100 = omega arith in
    ap (λ (s : List ℕ). right 3 s)
    (decimal_step n (omega arith) (omega arith)
    ∙ ap (λ (s : List ℕ). s ++ ((48 + n % 10) ∷ []))
    (decimal_step (n / 10) (omega arith) (omega arith)
    ∙ ap (λ (s : List ℕ). s ++ ((48 + n / 10 % 10) ∷ [])) (e ∙ ap (λ (k : ℕ). xs ++ ((48 + k % 10) ∷ [])) hundreds)))
    ∙ (last_three xs (48 + n / 100 % 10) (48 + n / 10 % 10) (48 + n % 10))

pasted : (mem : List ℕ) (at : ℕ) (out mem' : List ℕ) → Wrote mem at out mem' → mem' ≡ paste mem at out (length out)
pasted mem at out mem' w = w ∙ sym (paste_all mem at out (length out) refl)

-- one write behind another is a longer one
pub wrote_more : (mem mid mem' : List ℕ) (at k : ℕ) (xs ys : List ℕ) → at ≤ length mem → k ≡ at + length xs
    → Wrote mem at xs mid → Wrote mid k ys mem' → Wrote mem at (xs ++ ys) mem'
wrote_more mem mid mem' at k xs ys room is first next =
    pasted mid (at + length xs) ys mem' (rw is at next)
    ∙ ap (λ (m : List ℕ). paste m (at + length xs) ys (length ys)) (pasted mem at xs mid first)
    ∙ paste-paste mem at xs ys (length xs) (length ys) refl refl room
    ∙ ap (λ (k : ℕ). paste mem at (xs ++ ys) k) (sym (length-append xs ys))
    ∙ paste_all mem at (xs ++ ys) (length (xs ++ ys)) refl

-- the six parts of a line
pub wrote_line : (m₀ m₁ m₂ m₃ m₄ m₅ m₆ : List ℕ) (at : ℕ) (a b c : List ℕ) → length a ≡ 3 → length b ≡ 3 → length c ≡ 16 → at ≤ length m₀
    → Wrote m₀ at a m₁ → Wrote m₁ (at + 3) (32 ∷ []) m₂ → Wrote m₂ (at + 4) b m₃ → Wrote m₃ (at + 7) (32 ∷ []) m₄
    → Wrote m₄ (at + 8) c m₅ → Wrote m₅ (at + 24) (10 ∷ []) m₆
    → Wrote m₀ at (a ++ (32 ∷ (b ++ (32 ∷ (c ++ (10 ∷ [])))))) m₆
wrote_line m₀ m₁ m₂ m₃ m₄ m₅ m₆ at a b c la lb lc room w₁ w₂ w₃ w₄ w₅ w₆ =
    let s₂ = wrote_more m₀ m₁ m₂ at (at + 3) a (32 ∷ []) room (omega (arith, la)) w₁ w₂ in
    let s₃ = wrote_more m₀ m₂ m₃ at (at + 4) (a ++ (32 ∷ [])) b room (grind (arith, common_steps)) s₂ w₃ in
    let s₄ = wrote_more m₀ m₃ m₄ at (at + 7) ((a ++ (32 ∷ [])) ++ b) (32 ∷ []) room (grind (arith, common_steps)) s₃ w₄ in
    let s₅ = wrote_more m₀ m₄ m₅ at (at + 8) (((a ++ (32 ∷ [])) ++ b) ++ (32 ∷ [])) c room (grind (arith, common_steps)) s₄ w₅ in
    let s₆ = wrote_more m₀ m₅ m₆ at (at + 24) ((((a ++ (32 ∷ [])) ++ b) ++ (32 ∷ [])) ++ c) (10 ∷ []) room (grind (arith, common_steps)) s₅ w₆ in
    let same : ((((a ++ (32 ∷ [])) ++ b) ++ (32 ∷ [])) ++ c) ++ (10 ∷ []) ≡ a ++ (32 ∷ (b ++ (32 ∷ (c ++ (10 ∷ []))))) = grind (arith, common_steps) in
    subst (λ (out : List ℕ). Wrote m₀ at out m₆) same s₆

-- both columns have their width
pub length_right : (w : ℕ) (s : List ℕ) → length (right w s) ≡ w
length_right w s = grind (arith, common_steps)

pub length_left : (w : ℕ) (s : List ℕ) → length (left w s) ≡ w
length_left w s = grind (arith, common_steps)

padded : (w k : ℕ) (s : List ℕ) → length s ≤ w → w ≤ k → take w (s ++ replicate k 32) ≡ s ++ replicate (w - length s) 32
padded w k [] le ge =
    let whole : w ≡ w - 0 = omega arith in
    let start : take w (replicate k 32) ≡ replicate w 32 = take-replicate w k 32 ge in
    start ∙ ap (λ (n : ℕ). replicate n 32) whole
padded zero k (x ∷ s) le ge = absurd (omega arith)
padded (suc w) k (x ∷ s) le ge =
    let less : suc w - length (x ∷ s) ≡ w - length s = omega arith in
    ap (λ (r : List ℕ). x ∷ r) (padded w k s (omega arith) (omega arith)) ∙ ap (λ (n : ℕ). (x ∷ s) ++ replicate n 32) (sym less)

-- a short text is left as it is, with blanks behind
pub left_is : (w : ℕ) (s : List ℕ) → length s ≤ w → left w s ≡ s ++ drop (length s) (replicate w 32)
left_is w s le = padded w w s le (omega arith) ∙ ap (λ (r : List ℕ). s ++ r) (sym (drop-replicate (length s) w 32))

pub wrote_none : (mem : List ℕ) (at : ℕ) → Wrote mem at [] mem
wrote_none mem at = grind (arith, common_steps)
