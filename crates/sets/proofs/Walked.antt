-- Walks to the end: all members come, each once, rising.
use Rattle.std.proofs.Common.{◌≡◌, ℕ, zero, suc, ◌+◌, ◌<◌, ◌≤◌, Bool, true, false, not, ◌&&◌, ◌||◌, ◌⊎◌, ◌↔◌, eqb, List, [], ◌∷◌, Option, Some, None, length, get_or, sym, refl, ap, ◌∙◌, subst, inl, inr, arith}
use Rattle.std.proofs.lemmas.Bool.{cases_eq, cases_lt, cases_order, cases_Bool, both_ways}
use Rattle.std.proofs.lemmas.Bool.Decides.{nat_tests}
use Rattle.std.specs.List.Sorted.{IsStrictlyIncreasing}
use Rattle.sets.specs.declared.walk.FactWalk.{FactWalk}
use Rattle.sets.specs.declared.members.Members.{Members}
use Rattle.sets.specs.Facts.{has, set_of}
use Rattle.sets.specs.Jobs.{includes}
use Rattle.sets.specs.Members.{Ahead, Rises}
use Rattle.sets.specs.Search.{any, listed, Lowest}
use Rattle.sets.specs.Walk.{Takes}
use Rattle.sets.specs.Walked.{Walked, Lists, WalksListFacts, WalksListMembers, FactWalksEnd, MemberWalksEnd}
use Rattle.sets.proofs.FactLaws.{has_below, has_past, has_set_of}
use Rattle.sets.proofs.SearchLaws.{any_none}

-- the first number of a list apart
any_first : (n : ℕ) (p : ℕ → Bool) → any (suc n) p ≡ (p 0 || any n (λ i. p (suc i)))
unfolding any
any_first zero p = refl
any_first (suc n) p = ap (λ (b : Bool). p (suc n) || b) (any_first n p) ∙ swapped (p (suc n)) (p 0) (any n (λ i. p (suc i)))
  where
    swapped : (a b c : Bool) → (a || (b || c)) ≡ (b || (a || c))
    swapped true true c = refl
    swapped true false c = refl
    swapped false true c = refl
    swapped false false c = refl

listed_none : (k : ℕ) → listed [] k ≡ false
unfolding listed
listed_none k = any_none (λ i. eqb k (get_or [] i 0))

listed_first : (x : ℕ) (xs : List ℕ) (k : ℕ) → listed (x ∷ xs) k ≡ (eqb k x || listed xs k)
unfolding listed
listed_first x xs k = any_first (length xs) (λ i. eqb k (get_or (x ∷ xs) i 0))

-- a walk whose steps give the lowest number ahead, and leave ahead those above it
module _ {S : Type 0} (step : S → Option ℕ → S → Type 0) (ahead : S → ℕ → Type 0)
    (ended : (s u : S) → step s None u → (k : ℕ) → ¬ ahead s k)
    (came : (s u : S) (x : ℕ) → step s (Some x) u → Lowest (ahead s) x)
    (left : (s u : S) (x : ℕ) → step s (Some x) u → (k : ℕ) → ahead u k ↔ (ahead s k × (x < k))) where
  rising : (xs : List ℕ) (s : S) → Walked step s xs → IsStrictlyIncreasing xs
  rising [] s walked k within = absurd (omega arith)
  rising (x ∷ []) s walked k within = absurd (omega arith)
  rising (x ∷ y ∷ ys) s (u, to_x, (v, to_y, walked)) zero within = ((left s u x to_x y).0 (came u v y to_y).0).1
  rising (x ∷ y ∷ ys) s (u, to_x, walked) (suc k) within =
      let e : suc k + 1 ≡ suc (k + 1) = omega arith in rw e (rising (y ∷ ys) u walked k (omega arith))

  all_ahead : (xs : List ℕ) (s : S) → Walked step s xs → (k : ℕ) → (listed xs k ≡ true) ↔ ahead s k
  all_ahead [] s (u, none) k = (λ h. absurd (both_ways (listed [] k) (listed_none k) h), λ a. absurd (ended s u none k a))
  all_ahead (x ∷ xs) s (u, to_x, walked) k = (
    λ h. elim (cases_eq k x) [
      | inl e ↦ subst (ahead s) (sym e) (came s u x to_x).0
      | inr ne ↦
          let l = listed_first x xs k in
          ((left s u x to_x k).0 ((all_ahead xs u walked k).0 (grind (arith, nat_tests)))).0
    ],
    λ a. elim (cases_order k x) [
      | inl e ↦ let l = listed_first x xs k in grind (arith, nat_tests)
      | inr (inl lt) ↦ absurd ((came s u x to_x).1 k lt a)
      | inr (inr gt) ↦
          let l = listed_first x xs k in let h = (all_ahead xs u walked k).1 ((left s u x to_x k).1 (a, gt)) in
          grind (arith, nat_tests)
    ],
  )

  lists : (s : S) (xs : List ℕ) → Walked step s xs → Lists xs (ahead s)
  lists s xs walked = (rising xs s walked, all_ahead xs s walked)

  module _ (ends : (s : S) → ((k : ℕ) → ¬ ahead s k) → (u : S) × step s None u)
      (goes : (s : S) (x : ℕ) → Lowest (ahead s) x → (u : S) × step s (Some x) u)
      (decides : (s : S) (k : ℕ) → ahead s k ⊎ (¬ ahead s k)) where
    -- the numbers ahead are among the n from i up
    to_end : (n i : ℕ) (s : S) → ((k : ℕ) → ahead s k → (i ≤ k) × (k < i + n)) → (xs : List ℕ) × Walked step s xs
    to_end zero i s among = ([], ends s (λ k a. let (low, high) = among k a in absurd (omega arith)))
    to_end (suc n) i s among =
        elim (decides s i) [
          | inl a ↦
              let (u, to_i) = goes s i (a, λ k lt b. let (low, _) = among k b in absurd (omega arith)) in
              let (xs, walked) = to_end n (suc i) u (λ k b. let (c, gt) = (left s u i to_i k).0 b in let (_, high) = among k c in (omega arith, omega arith)) in
              (i ∷ xs, (u, to_i, walked))
          | inr not_i ↦
              to_end n (suc i) s
              (λ k b. let (low, high) = among k b in elim (cases_eq k i) [
                | inl e ↦ absurd (not_i (subst (ahead s) e b))
                | inr ne ↦ (omega arith, omega arith)
              ])
        ]

-- the steps of a walk over facts
abbrev Left : FactWalk → ℕ → Type 0
Left w f = has w.left f ≡ true

fact_came : (w u : FactWalk) (f : ℕ) → Takes w (Some f) u → Lowest (Left w) f
fact_came w u f (lowest, _) = lowest

fact_ended : (w u : FactWalk) → Takes w None u → (k : ℕ) → ¬ Left w k
fact_ended w u (none, _) k h = both_ways (has w.left k) (none k) h

fact_left : (w u : FactWalk) (f : ℕ) → Takes w (Some f) u → (k : ℕ) → Left u k ↔ (Left w k × (f < k))
fact_left w u f ((here, below), less) k = (
  λ h. elim (cases_order k f) [
    | inl e ↦ let l = less k in absurd (grind (arith, nat_tests))
    | inr (inl lt) ↦ let l = less k in absurd (below k lt (grind (arith, nat_tests)))
    | inr (inr gt) ↦ let l = less k in (grind (arith, nat_tests), gt)
  ],
  λ (h, gt). let l = less k in grind (arith, nat_tests),
)

fact_ends : (w : FactWalk) → ((k : ℕ) → ¬ Left w k) → (u : FactWalk) × Takes w None u
fact_ends w none = (w, (λ k. elim (cases_Bool (has w.left k)) [ inl y ↦ absurd (none k y) | inr n ↦ n ], refl))

fact_goes : (w : FactWalk) (f : ℕ) → Lowest (Left w) f → (u : FactWalk) × Takes w (Some f) u
fact_goes w f lowest = (record { left = set_of (λ k. has w.left k && not (eqb k f)) }, (lowest, less))
  where
    less : (k : ℕ) → has (set_of (λ i. has w.left i && not (eqb i f))) k ≡ (has w.left k && not (eqb k f))
    less k =
        has_set_of (λ i. has w.left i && not (eqb i f)) k
        ∙ elim (cases_lt k 128) [
          | inl lt ↦ grind (arith, nat_tests)
          | inr past ↦ let p = has_past w.left k past in grind (arith, nat_tests)
        ]

fact_decides : (w : FactWalk) (k : ℕ) → Left w k ⊎ (¬ Left w k)
fact_decides w k = elim (cases_Bool (has w.left k)) [ inl y ↦ inl y | inr n ↦ inr (both_ways (has w.left k) n) ]

pub walks_list_facts : WalksListFacts
walks_list_facts s = lists Takes Left fact_ended fact_came fact_left (record { left = s })

pub fact_walks_end : FactWalksEnd
fact_walks_end s =
    to_end Takes Left fact_ended fact_came fact_left fact_ends fact_goes fact_decides 128 0 (record { left = s })
    (λ k h. (omega arith, has_below s k h))

-- the steps of a walk over jobs
member_came : (s u : Members) (j : ℕ) → Rises s (Some j) u → Lowest (Ahead s) j
member_came s u j (lowest, _) = lowest

member_ended : (s u : Members) → Rises s None u → (k : ℕ) → ¬ Ahead s k
member_ended s u (none, _) = none

member_left : (s u : Members) (j : ℕ) → Rises s (Some j) u → (k : ℕ) → Ahead u k ↔ (Ahead s k × (j < k))
member_left s u j (((low, _, _), _), is) k =
    subst (λ (v : Members). Ahead v k ↔ (Ahead s k × (j < k))) (sym is) (
      λ (above, below, there). ((omega arith, below, there), omega arith),
      λ ((_, below, there), gt). (omega arith, below, there),
    )

member_ends : (s : Members) → ((k : ℕ) → ¬ Ahead s k) → (u : Members) × Rises s None u
member_ends s none = (s, (none, refl))

member_goes : (s : Members) (j : ℕ) → Lowest (Ahead s) j → (u : Members) × Rises s (Some j) u
member_goes s j lowest = (record { set = s.set; from = j + 1; end = s.end }, (lowest, refl))

member_decides : (s : Members) (k : ℕ) → Ahead s k ⊎ (¬ Ahead s k)
member_decides s k =
    elim (cases_lt k s.from) [
      | inl lt ↦ inr (λ (low, _, _). omega arith)
      | inr low ↦ elim (cases_lt k s.end) [
        | inr past ↦ inr (λ (_, high, _). omega arith)
        | inl high ↦ elim (cases_Bool (includes s.set k)) [
          | inl y ↦ inl (low, high, y)
          | inr n ↦ inr (λ (_, _, y). both_ways (includes s.set k) n y)
        ]
      ]
    ]

pub walks_list_members : WalksListMembers
walks_list_members s i n = lists Rises Ahead member_ended member_came member_left (record { set = s; from = i; end = n })

pub member_walks_end : MemberWalksEnd
member_walks_end s i n =
    to_end Rises Ahead member_ended member_came member_left member_ends member_goes member_decides n 0
    (record { set = s; from = i; end = n })
    (λ k (_, high, _). (omega arith, omega arith))
