-- Every round that names finitely many jobs has an order.
use Rattle.std.proofs.Common.{◌≡◌, ℕ, zero, suc, ◌<◌, Bool, true, false, cond, List, [], ◌∷◌, ◌++◌, sym, refl, subst, inl, inr, arith}
use Rattle.std.proofs.lemmas.Bool.{both_ways, cases_eq}
use Rattle.strips.specs.Rounds.{Round}
use Rattle.strips.specs.Singly.{Among, Once, OrderOf}
use Rattle.strips.specs.Linear.{RoundsHaveOrders}

-- the jobs of the round below m, falling
abbrev listing : Round → ℕ → List ℕ
listing r zero = []
listing r (suc m) = cond (r m) (m ∷ listing r m) (listing r m)

module _ (r : Round) where
  listed : (m j : ℕ) → Among j (listing r m) → (j < m) × (r j ≡ true)
  listed zero j among = absurd among
  listed (suc m) j among = go (r m) refl (listed m j) among
    where
      go : (b : Bool) → r m ≡ b → (Among j (listing r m) → (j < m) × (r j ≡ true)) → Among j (cond b (m ∷ listing r m) (listing r m))
          → (j < suc m) × (r j ≡ true)
      go true e before (inl is) = (omega arith, subst (λ (i : ℕ). r i ≡ true) (sym is) e)
      go true e before (inr x) = let (lt, there) = before x in (omega arith, there)
      go false e before x = let (lt, there) = before x in (omega arith, there)

  all_listed : (m j : ℕ) → j < m → r j ≡ true → Among j (listing r m)
  all_listed zero j lt there = absurd (omega arith)
  all_listed (suc m) j lt there = go (r m) refl (λ below. all_listed m j below there)
    where
      go : (b : Bool) → r m ≡ b → (j < m → Among j (listing r m)) → Among j (cond b (m ∷ listing r m) (listing r m))
      go true e before = elim (cases_eq j m) [ inl is ↦ inl is | inr ne ↦ inr (before (omega arith)) ]
      go false e before =
          elim (cases_eq j m) [
            | inl is ↦ absurd (both_ways (r m) e (subst (λ (i : ℕ). r i ≡ true) is there))
            | inr ne ↦ before (omega arith)
          ]

  listed_once : (m : ℕ) → Once (listing r m)
  listed_once zero = tt
  listed_once (suc m) = go (r m) (listed_once m) (λ among. let lt : m < m = (listed m m among).0 in omega arith)
    where
      go : (b : Bool) → Once (listing r m) → (Among m (listing r m) → ⊥) → Once (cond b (m ∷ listing r m) (listing r m))
      go true before new = (new, before)
      go false before new = before

  order : (m : ℕ) → ((j : ℕ) → r j ≡ true → j < m) → OrderOf r (listing r m)
  order m below = record {
    once = listed_once m;
    each = λ j there. all_listed m j (below j there) there;
    only = λ j among. (listed m j among).1;
  }

pub rounds_have_orders : RoundsHaveOrders
rounds_have_orders m [] ok = ([], refl)
rounds_have_orders m (r ∷ rs) (below, ok) =
    let (js, free) = rounds_have_orders m rs ok in (listing r m ++ js, (listing r m, js, order r m below, free, refl))
