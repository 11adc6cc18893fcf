-- Sets of pairs, built row by row and entry by entry.
use Rattle.std.proofs.Common.{◌≡◌, ℕ, ◌+◌, ◌<◌, ◌≤◌, Bool, true, false, cond, not, ◌&&◌, ◌||◌, eqb, ltb, leb, List, length, get_or, set, replicate, Some, Decides, sym, refl, ap, ◌∙◌, subst, inl, inr, arith, get_or-set_other, get_or-set_same}
use mathlib.Core.Bool.{or-false}
use Rattle.std.proofs.lemmas.List.{length-replicate, get_or-replicate, get_or_past}
use Rattle.std.proofs.lemmas.Bool.{cases_lt, cases_eq, le-ltb, ltb-true, leb-true, lt-ltb, le-leb, and_parts, and_from, and_left, and_right, ne_eqb}
use Rattle.std.proofs.lemmas.Bool.Decides.{nat_tests}
use Rattle.sets.specs.declared.facts.FactSet.{FactSet}
use Rattle.sets.specs.declared.walk.FactWalk.{FactWalk}
use Rattle.sets.specs.Facts.{has}
use Rattle.sets.specs.Walk.{Takes}
use Rattle.sets.proofs.FactLaws.{no_words}
use Rattle.sets.proofs.WalkLaws.{Begun, Met}
use Rattle.layers.specs.Pairs.{pair_count, entry_number}
use Rattle.layers.proofs.PairLaws.{entry_number_up, entry_number_swap, entry_number_within}
use Rattle.reach.specs.declared.pair_set.PairSet.{PairSet}
use Rattle.reach.specs.PairSets.{row, paired, ReadBelow}
use Rattle.reach.specs.Tables.{Table, entry, Reads}
use Rattle.reach.proofs.EntryLaws.{entry_number_alike}

pub paired_set : (rows : List FactSet) (i : ℕ) (a : FactSet) → i < length rows
    → (p q : ℕ) → paired (record { rows = set rows i a }) p q ≡ cond (eqb p i) (has a q) (paired (record { rows = rows }) p q)
paired_set rows i a h p q =
    elim (cases_eq p i) [
      | inl e ↦ rw (e, get_or-set_same) (grind (arith, nat_tests))
      | inr ne ↦ rw get_or-set_other (grind (arith, nat_tests))
    ]

-- no fact from the number of rows up is paired
pub paired_past : (s : PairSet) (p q : ℕ) → length s.rows ≤ p → paired s p q ≡ false
paired_past s p q h = rw (get_or_past s.rows p (record { low = 0; high = 0 }) h) (no_words (record { low = 0; high = 0 }) q refl refl)

pub paired_none : (s : FactSet) → ((f : ℕ) → has s f ≡ false) → (p q : ℕ) → paired (record { rows = replicate 128 s }) p q ≡ false
paired_none s off p q =
    elim (cases_lt p 128) [
      | inl b ↦ rw (get_or-replicate 128 p s (record { low = 0; high = 0 }) b) (off q)
      | inr b ↦ paired_past (record { rows = replicate 128 s }) p q (omega (arith, length-replicate 128 s))
    ]

not_both : (x y p q : ℕ) → ((x ≡ p) × (y ≡ q) → ⊥) → (eqb x p && eqb y q) ≡ false
not_both x y p q off =
    elim (cases_eq x p) [
      | inl e ↦ and_right (eqb x p) (eqb y q) (ne_eqb y q (λ h. off (e, h)))
      | inr ne ↦ and_left (eqb x p) (eqb y q) (ne_eqb x p ne)
    ]

-- the pairs read from the first entries of a table
module _ (s : PairSet) (t : ℕ) (tb : Table) where
  pub read_none : ((p q : ℕ) → paired s p q ≡ false) → ReadBelow s t tb 0
  read_none off p q = off p q ∙ sym (ap (λ (b : Bool). b && leb (entry tb p q) t) (le-ltb (entry_number p q) 0 (omega arith)))

  module _ (p q : ℕ) (low : p ≤ q) (old : ReadBelow s t tb (pair_count q + p)) where
    pub read_more : (u : PairSet) → entry tb p q ≤ t
        → ((x y : ℕ) → paired u x y ≡ ((paired s x y || (eqb x p && eqb y q)) || (eqb x q && eqb y p)))
        → ReadBelow u t tb (pair_count q + (p + 1))
    read_more u got law x y =
        let o = old x y in
        let l = law x y in
        let at = entry_number_up p q low in
        elim (cases_eq (entry_number x y) (entry_number p q)) [
          | inl h ↦
              let g : entry tb x y ≡ entry tb p q = ap (λ (k : ℕ). get_or tb k 0) h in
              elim (entry_number_alike p q x y h) [ inl w ↦ grind (arith, nat_tests) | inr w ↦ grind (arith, nat_tests) ]
          | inr ne ↦
              let one = not_both x y p q (λ w. ne (same w.0 w.1)) in
              let two = not_both x y q p (λ w. ne (same w.0 w.1 ∙ entry_number_swap q p)) in
              let again : ltb (entry_number x y) (pair_count q + (p + 1)) ≡ ltb (entry_number x y) (pair_count q + p) = grind (arith, nat_tests) in
              l ∙ rw (one, two) (or-false _ ∙ or-false _ ∙ o ∙ sym (ap (λ (b : Bool). b && leb (entry tb x y) t) again))
        ]
      where
        same : {a b : ℕ} → x ≡ a → y ≡ b → entry_number x y ≡ entry_number a b
        same i j = ap (λ (k : ℕ). entry_number k y) i ∙ ap (entry_number _) j

    pub read_skip : t < entry tb p q → ReadBelow s t tb (pair_count q + (p + 1))
    read_skip far x y =
        let o = old x y in
        let at = entry_number_up p q low in
        elim (cases_eq (entry_number x y) (entry_number p q)) [
          | inl h ↦ let g : entry tb x y ≡ entry tb p q = ap (λ (k : ℕ). get_or tb k 0) h in grind (arith, nat_tests)
          | inr ne ↦ grind (arith, nat_tests)
        ]

  -- with every entry of n facts read
  pub read_all : (n : ℕ) → ReadBelow s t tb (pair_count n) → (p q : ℕ) → Decides (paired s p q) (Reads n t tb p q)
  read_all n all p q = (
    λ h.
        let w = and_parts _ _ (sym (all p q) ∙ h) in
        let b = (entry_number_within p q n).0 (ltb-true _ _ w.0) in
        (b.0, b.1, leb-true _ _ w.1),
    λ h. all p q ∙ and_from _ _ (lt-ltb _ _ ((entry_number_within p q n).1 (h.0, h.1))) (le-leb _ _ h.2),
  )

-- the pairs reached have no order
pub reached_turn : (n t : ℕ) (tb : Table) (s : PairSet) → ((p q : ℕ) → Decides (paired s p q) (Reads n t tb p q))
    → (p q : ℕ) → paired s p q ≡ true → paired s q p ≡ true
reached_turn n t tb s reads p q e =
    let (lp, lq, le) = (reads p q).0 e in
    (reads q p).1 (lq, lp, subst (λ (i : ℕ). get_or tb i 0 ≤ t) (entry_number_swap p q) le)

-- the facts paired with every fact that a walk has behind it
abbrev pub Shared : PairSet → FactSet → FactWalk → FactSet → Type 0
Shared self s w common = (q : ℕ) → Decides (has common q) ((q < 128) × Met s w (λ p. paired self p q ≡ true))

-- the facts that a walk has behind it are paired with those of `with` too
abbrev pub Joining : PairSet → PairSet → FactSet → FactWalk → FactSet → Type 0
Joining old self s w with = (p q : ℕ) → paired self p q ≡ (paired old p q || ((has s p && not (has w.left p)) && has with q))

pub joining_more : (old : PairSet) (s : FactSet) (w : FactWalk) (with : FactSet) (rows : List FactSet) (u : FactWalk)
    → Joining old (record { rows = rows }) s w with → (f : ℕ) (a : FactSet) → Takes w (Some f) u → Begun s w → f < length rows
    → ((k : ℕ) → has a k ≡ (has (row (record { rows = rows }) f) k || has with k)) → Joining old (record { rows = set rows f a }) s u with
joining_more old s w with rows u so_far f a step begun inside law p q =
    let r = paired_set rows f a inside p q in
    let l = law q in
    let o = so_far p q in
    let g = step.1 p in
    let there = step.0.0 in
    let whole = begun p in
    elim (cases_eq p f) [ inl same ↦ grind (arith, nat_tests) | inr ne ↦ grind (arith, nat_tests) ]
