-- What is told of a distance, and that it tells the distance.
use Rattle.std.proofs.Common.{◌≡◌, ℕ, ◌+◌, false, List, [], ◌∷◌, length, ℤ, Some, None, Ok, Option, codes, ◌∙◌, sym, ap, refl, inl, inr, arith}
use Rattle.strips.specs.Tasks.{Meaning}
use Rattle.reach.specs.Tables.{Table, GoalTold}
use Rattle.planning.specs.declared.book.Book.{Book}
use Rattle.planning.specs.declared.report.Distance.{Distance}
use Rattle.planning.specs.declared.report.Distance.TheVariants.{Told, NoPlan, AtLeast}
use Rattle.planning.specs.Reports.{told, number, none, at_least, Excess}
use Rattle.planning.specs.Calls.{Tells, ToldBy}
use Rattle.planning.specs.Main.{Decided}

pub same_distance : (d d' : Distance) → told d ≡ told d' → d ≡ d'
same_distance d d' e = by_parts d d' (ap (λ (x : List ℕ × List ℕ). x.0) e) (ap (λ (x : List ℕ × List ℕ). x.1) e)
  where
    by_parts : (d d' : Distance) → (told d).0 ≡ (told d').0 → (told d).1 ≡ (told d').1 → d ≡ d'
    by_parts (Told x) (Told y) word numbers = cc
    by_parts NoPlan NoPlan word numbers = refl
    by_parts (AtLeast x) (AtLeast y) word numbers = cc
    by_parts _ _ word numbers = cc

-- what is told of one distance is one thing
module _ (d : Distance) where
  -- a word with a number isn't one without
  with_number : (w w' : List ℕ) (x : ℕ) → told d ≡ (w, x ∷ []) → told d ≡ (w', []) → ⊥
  with_number w w' x is is' = let many : ◌≡◌ {A = ℕ} 1 0 = ap (λ (p : List ℕ × List ℕ). length p.1) (sym is ∙ is') in omega arith

  pub told_number : (x y : ℕ) → told d ≡ (codes "told", x ∷ []) → told d ≡ (codes "told", y ∷ []) → x ≡ y
  told_number x y is is' =
      let numbers : ◌≡◌ {A = List ℕ} (x ∷ []) (y ∷ []) = ap (λ (p : List ℕ × List ℕ). p.1) (sym is ∙ is') in cc

  pub told_not_none : (x : ℕ) → told d ≡ (codes "told", x ∷ []) → told d ≡ (codes "none", []) → ⊥
  told_not_none x is is' = with_number _ _ x is is'

  pub told_not_more : (x y : ℕ) → told d ≡ (codes "told", x ∷ []) → told d ≡ (codes "at least", y ∷ []) → ⊥
  told_not_more x y is is' =
      let words : codes "told" ≡ codes "at least" = ap (λ (p : List ℕ × List ℕ). p.0) (sym is ∙ is') in cc

  pub none_not_more : (y : ℕ) → told d ≡ (codes "none", []) → told d ≡ (codes "at least", y ∷ []) → ⊥
  none_not_more y is is' = with_number _ _ y is' is

  pub decided_not_more : (y : ℕ) → Decided d → told d ≡ (codes "at least", y ∷ []) → ⊥
  decided_not_more y (number x is _) is' = told_not_more x y is is'
  decided_not_more y (none is _) is' = none_not_more y is is'
  decided_not_more y (at_least k _ never) is' = never

  pub one_excess : (r : ℕ) (e e' : Option ℤ) → Excess r d e → Excess r d e' → e ≡ e'
  one_excess r e e' (number x is a) (number y is' b) = let same = told_number x y is is' in cc
  one_excess r e e' (number x is _) (none is' _) = absurd (told_not_none x is is')
  one_excess r e e' (number x is _) (at_least k is' _) = absurd (told_not_more x k is is')
  one_excess r e e' (none is _) (number x is' _) = absurd (told_not_none x is' is)
  one_excess r e e' (none _ a) (none _ b) = a ∙ sym b
  one_excess r e e' (none _ a) (at_least _ _ b) = a ∙ sym b
  one_excess r e e' (at_least k is _) (number x is' _) = absurd (told_not_more x k is' is)
  one_excess r e e' (at_least _ _ a) (none _ b) = a ∙ sym b
  one_excess r e e' (at_least _ _ a) (at_least _ _ b) = a ∙ sym b

-- what is told goes by the layer that the table gives for the goal
pub told_by : (T : Meaning) (b : Book) (tb : Table) (o : Option ℕ) (d : Distance) → GoalTold T b.t tb (Ok o) → Tells b o d → ToldBy T b tb d
told_by T b tb (Some x) d (_, read, largest) is = number x is (read, largest)
told_by T b tb None d (_, out) (inl (s, is)) = none is (out, s)
told_by T b tb None d (_, out) (inr (s, is)) = at_least (b.t + 1) is (out, s, refl)

-- a book that tells "at least" isn't settled
pub not_settled : (T : Meaning) (b : Book) (tb : Table) (k : ℕ) → ToldBy T b tb (AtLeast k) → b.settled ≡ false
not_settled T b tb k (number x is _) = absurd (told_not_more (AtLeast k) x k is refl)
not_settled T b tb k (none is _) = absurd (none_not_more (AtLeast k) k is refl)
not_settled T b tb k (at_least _ _ (_, s, _)) = s
