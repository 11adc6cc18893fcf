-- The lines of rounds.
use Rattle.std.proofs.Common.{◌≡◌, ℕ, zero, suc, ◌+◌, ◌<◌, ◌≤◌, Bool, true, false, cond, List, [], ◌∷◌, ◌++◌, length, map, take, get_or, nat_lt, sym, refl, ap, ◌∙◌, inl, inr, add-one, arith, length-append, append-nil, append_assoc, zero-add, subst, Some, None, ◌*◌}
use Rattle.std.specs.Prelude.{decimal}
use Rattle.std.proofs.lemmas.Bool.{cases_Bool, cases_lt, and_parts, and_from, and_right, lt-ltb, le-ltb}
use Rattle.std.proofs.lemmas.Grind.{common_steps}
use Rattle.std.proofs.lemmas.List.{take_more, map-append, length-map, length-take-le, take-map}
use Rattle.sets.specs.declared.jobs.JobSet.{JobSet}
use Rattle.sets.specs.Jobs.{includes}
use Rattle.sets.specs.Search.{any}
use Rattle.sets.proofs.SearchLaws.{decides_any}
use Rattle.strips.specs.Rounds.{Round, round_of}
use Rattle.pages.specs.Names.{Names}
use Rattle.pages.specs.Pages.{line, job_text, job_line, pause_line, job_lines, round_lines, lines_from, page, page_at}
use Rattle.pages.proofs.LineLaws.{length_right, length_left}

pub length_line : (i j s : List ℕ) → length (line i j s) ≡ 25
length_line i j s =
    let a = length_right 3 i in
    let b = length_right 3 j in
    let c = length_left 16 s in
    grind (arith, common_steps)

-- the lowest job of a round, where there is one, tells whether the task has a job in it
pub lowest_tells : (m : ℕ) (p : JobSet) (k : ℕ) → includes p k ≡ true → ((i : ℕ) → i < k → includes p i ≡ true → ⊥) → nat_lt k m ≡ any m (round_of m p)
lowest_tells m p k here first =
    elim (cases_lt k m) [
      | inl lt ↦ lt-ltb k m lt ∙ sym ((decides_any m (round_of m p)).1 (k, lt, and_from _ _ (lt-ltb k m lt) here))
      | inr ge ↦
          elim (cases_Bool (any m (round_of m p))) [
            | inl yes' ↦
                let (i, lt, e) = (decides_any m (round_of m p)).0 yes' in
                absurd (first i (omega arith) (and_parts _ _ e).1)
            | inr no' ↦ le-ltb k m ge ∙ sym no'
          ]
    ]

pub none_tells : (m : ℕ) (p : JobSet) → ((i : ℕ) → includes p i ≡ true → ⊥) → false ≡ any m (round_of m p)
none_tells m p none =
    elim (cases_Bool (any m (round_of m p))) [
      | inl yes' ↦ let (i, lt, e) = (decides_any m (round_of m p)).0 yes' in absurd (none i (and_parts _ _ e).1)
      | inr no' ↦ sym no'
    ]

pub lines_none : (N : Names) (i : ℕ) (r : Round) → job_lines N i r 0 ≡ []
unfolding job_lines
lines_none N i r = refl

pub lines_more : (N : Names) (i : ℕ) (r : Round) (k : ℕ) → job_lines N i r (k + 1) ≡ job_lines N i r k ++ cond (r k) (job_line N i k) []
unfolding job_lines
lines_more N i r k = rw add-one

-- fewer jobs have no more lines
pub lines_up : (N : Names) (i : ℕ) (r : Round) (j k : ℕ) → j ≤ k → length (job_lines N i r j) ≤ length (job_lines N i r k)
lines_up N i r j zero le = let e : j ≡ 0 = omega arith in rw e (omega arith)
lines_up N i r j (suc k) le =
    elim (cases_lt j (suc k)) [
      | inl lt ↦
          let up = lines_up N i r j k (omega arith) in
          let more = ap length (lines_more N i r k) in
          let parts = length-append (job_lines N i r k) (cond (r k) (job_line N i k) []) in
          let same : length (job_lines N i r (suc k)) ≡ length (job_lines N i r (k + 1)) = rw add-one refl in
          omega arith
      | inr ge ↦ let e : j ≡ suc k = omega arith in rw e (omega arith)
    ]

-- a job more has a line more
pub lines_with : (N : Names) (i : ℕ) (m : ℕ) (p : JobSet) (k : ℕ) → k < m → includes p k ≡ true
    → job_lines N i (round_of m p) (k + 1) ≡ job_lines N i (round_of m p) k ++ job_line N i k
lines_with N i m p k lt here =
    let on : round_of m p k ≡ true = and_from _ _ (lt-ltb k m lt) here in
    lines_more N i (round_of m p) k ∙ ap (λ (b : Bool). job_lines N i (round_of m p) k ++ cond b (job_line N i k) []) on

pub lines_without : (N : Names) (i : ℕ) (m : ℕ) (p : JobSet) (k : ℕ) → includes p k ≡ false
    → job_lines N i (round_of m p) (k + 1) ≡ job_lines N i (round_of m p) k
lines_without N i m p k gone =
    let off : round_of m p k ≡ false = and_right (nat_lt k m) (includes p k) gone in
    lines_more N i (round_of m p) k ∙ ap (λ (b : Bool). job_lines N i (round_of m p) k ++ cond b (job_line N i k) []) off ∙ append-nil (job_lines N i (round_of m p) k)

-- the line of a job more takes 25 bytes
pub length_with : (N : Names) (i : ℕ) (m : ℕ) (p : JobSet) (k : ℕ) → k < m → includes p k ≡ true
    → length (job_lines N i (round_of m p) (k + 1)) ≡ length (job_lines N i (round_of m p) k) + 25
length_with N i m p k lt here =
    ap length (lines_with N i m p k lt here)
    ∙ length-append (job_lines N i (round_of m p) k) (job_line N i k)
    ∙ ap (λ (n : ℕ). length (job_lines N i (round_of m p) k) + n) (length_line (decimal i) (job_text (Some k)) (N k))

lines_from_append : (m : ℕ) (N : Names) (i : ℕ) (rs : List Round) (r : Round)
    → lines_from m N i (rs ++ (r ∷ [])) ≡ lines_from m N i rs ++ round_lines m N (i + length rs) r
lines_from_append m N i [] r =
    let here : i ≡ i + 0 = omega arith in
    append-nil (round_lines m N i r) ∙ ap (λ (k : ℕ). round_lines m N k r) here
lines_from_append m N i (q ∷ rs) r =
    let next : suc i + length rs ≡ i + length (q ∷ rs) = omega arith in
    ap (λ (s : List ℕ). round_lines m N i q ++ s) (lines_from_append m N (suc i) rs r)
    ∙ sym (append_assoc (round_lines m N i q) (lines_from m N (suc i) rs) (round_lines m N (suc i + length rs) r))
    ∙ ap (λ (k : ℕ). (round_lines m N i q ++ lines_from m N (suc i) rs) ++ round_lines m N k r) next

-- the page of a place more has the lines of its round behind
pub page_more : (m : ℕ) (N : Names) (places : List JobSet) (i : ℕ) (d : JobSet) → i < length places
    → page_at m N (take (i + 1) places) ≡ page_at m N (take i places) ++ round_lines m N i (round_of m (get_or places i d))
page_more m N places i d lt =
    let n : length (map (round_of m) (take i places)) ≡ i = length-map (take i places) (round_of m) ∙ length-take-le i places (omega arith) in
    ap (λ (ps : List JobSet). page_at m N ps) (take_more places i d lt)
    ∙ ap (λ (rs : List Round). page m N rs) (map-append (round_of m) (take i places) (get_or places i d ∷ []))
    ∙ lines_from_append m N 0 (map (round_of m) (take i places)) (round_of m (get_or places i d))
    ∙ ap (λ (k : ℕ). page_at m N (take i places) ++ round_lines m N k (round_of m (get_or places i d))) (ap (λ (k : ℕ). 0 + k) n ∙ zero-add i)

lines_from_split : (m : ℕ) (N : Names) (i k : ℕ) (rs : List Round) → length (lines_from m N i (take k rs)) ≤ length (lines_from m N i rs)
lines_from_split m N i zero rs = omega arith
lines_from_split m N i (suc k) [] = omega arith
lines_from_split m N i (suc k) (r ∷ rs) =
    let rest = lines_from_split m N (suc i) k rs in
    let a = length-append (round_lines m N i r) (lines_from m N (suc i) (take k rs)) in
    let b = length-append (round_lines m N i r) (lines_from m N (suc i) rs) in
    omega arith

-- the page of fewer places is no longer
pub page_up : (m : ℕ) (N : Names) (places : List JobSet) (k : ℕ) → length (page_at m N (take k places)) ≤ length (page_at m N places)
page_up m N places k = subst (λ (rs : List Round). length (page m N rs) ≤ length (page_at m N places)) (take-map (round_of m) k places) (lines_from_split m N 0 k (map (round_of m) places))

jobs_few : (N : Names) (i : ℕ) (r : Round) (k : ℕ) → length (job_lines N i r k) ≤ 25 * k
jobs_few N i r zero = let none = ap length (lines_none N i r) in omega arith
jobs_few N i r (suc k) =
    let more = ap length (lines_more N i r k) in
    let parts = length-append (job_lines N i r k) (cond (r k) (job_line N i k) []) in
    let same : length (job_lines N i r (suc k)) ≡ length (job_lines N i r (k + 1)) = rw add-one refl in
    let before = jobs_few N i r k in
    let one : length (cond (r k) (job_line N i k) []) ≤ 25 = at_most_a_line (r k) in
    omega arith
  where
    at_most_a_line : (b : Bool) → length (cond b (job_line N i k) []) ≤ 25
    at_most_a_line true = let e = length_line (decimal i) (job_text (Some k)) (N k) in omega arith
    at_most_a_line false = omega arith

round_few : (m : ℕ) (N : Names) (i : ℕ) (r : Round) → m ≤ 255 → length (round_lines m N i r) ≤ 6375
round_few m N i r le = either (any m r)
  where
    either : (b : Bool) → length (cond b (job_lines N i r m) (pause_line i)) ≤ 6375
    either true = let few = jobs_few N i r m in omega arith
    either false = let e = length_line (decimal i) (job_text None) [] in omega arith

lines_few : (m : ℕ) (N : Names) (i : ℕ) (rs : List Round) → m ≤ 255 → length (lines_from m N i rs) ≤ 6375 * length rs
lines_few m N i [] le = omega arith
lines_few m N i (r ∷ rs) le =
    let one = round_few m N i r le in
    let rest = lines_few m N (suc i) rs le in
    let parts = length-append (round_lines m N i r) (lines_from m N (suc i) rs) in
    omega arith

-- a round has at most 255 lines
pub page_few : (m : ℕ) (N : Names) (rs : List Round) → m ≤ 255 → length (page m N rs) ≤ 6375 * length rs
page_few m N rs le = lines_few m N 0 rs le
