-- Writing a row of pairs, and one row after the other.
use Rattle.std.proofs.Common.{◌≡◌, ℕ, ◌+◌, Bool, true, false, not, ◌&&◌, ◌⊎◌, length, get_or, sym, ap, ◌∙◌, ap₂, inl, inr, arith}
use Rattle.std.proofs.lemmas.Bool.{cases_eq, true≢false}
use Rattle.sets.specs.declared.facts.FactSet.{FactSet}
use Rattle.sets.specs.declared.walk.FactWalk.{FactWalk}
use Rattle.sets.specs.Facts.{has}
use Rattle.sets.proofs.WalkLaws.{Begun, Met}
use Rattle.layers.specs.Pairs.{entry_number}
use Rattle.reach.specs.declared.pair_set.PairSet.{PairSet}
use Rattle.reach.specs.PairSets.{row, Fresh, Wrote, WroteRow}
use Rattle.reach.specs.Tables.{Table, entry}

-- how far a walk over s has come that writes v to the entries of p
pub record Writing (p : ℕ) (s : FactSet) (v : ℕ) (tb tb' : Table) (w : FactWalk) : Type 0 where
  pub begun : Begun s w
  pub written : Met s w (λ q. entry tb' p q ≡ v)
  pub kept : (i : ℕ) → ((q : ℕ) → has s q ≡ true → i ≡ entry_number p q → ⊥) → get_or tb' i 0 ≡ get_or tb i 0
  pub stays : (i : ℕ) → get_or tb i 0 ≡ v → get_or tb' i 0 ≡ v

pub new_row : (made reached : PairSet) (p : ℕ) (a b s : FactSet) → a ≡ row made p → b ≡ row reached p → ((f : ℕ) → has s f ≡ (has a f && not (has b f)))
    → (f : ℕ) → has s f ≡ (has (row made p) f && not (has (row reached p) f))
new_row made reached p a b s is-a is_b law f = law f ∙ ap₂ (λ (x y : FactSet). has x f && not (has y f)) is-a is_b

module _ (made reached : PairSet) (p v : ℕ) (tb tb' : Table) (any : Bool) (so_far : Wrote made reached p v tb tb' any) (s : FactSet)
    (law : (f : ℕ) → has s f ≡ (has (row made p) f && not (has (row reached p) f))) where
  up : (x y : ℕ) → Fresh made reached p x y → Fresh made reached (p + 1) x y
  up x y f = record { low = omega (arith, f.low); there = f.there; absent = f.absent }

  fresh_here : (y : ℕ) → has s y ≡ true → Fresh made reached (p + 1) p y
  fresh_here y h = let l = law y in record { low = omega arith; there = grind arith; absent = grind arith }

  -- a fresh pair is one of before, or one of this row
  split : (x y : ℕ) → Fresh made reached (p + 1) x y → (Fresh made reached p x y) ⊎ ((x ≡ p) × (has s y ≡ true))
  split x y f =
      elim (cases_eq x p) [
        | inl e ↦
            let a : has (row made p) y ≡ true = ap (λ (i : ℕ). has (row made i) y) (sym e) ∙ f.there in
            let b : has (row reached p) y ≡ false = ap (λ (i : ℕ). has (row reached i) y) (sym e) ∙ f.absent in
            inr (e, let l = law y in grind arith)
        | inr ne ↦ inl (record { low = omega (arith, f.low); there = f.there; absent = f.absent })
      ]

  pub wrote_skip : ((f : ℕ) → has s f ≡ false) → Wrote made reached (p + 1) v tb tb' any
  wrote_skip off =
      let back : (x y : ℕ) → Fresh made reached (p + 1) x y → Fresh made reached p x y =
      λ x y f. elim (split x y f) [ inl g ↦ g | inr h ↦ absurd (true≢false (sym h.1 ∙ off y)) ] in
      record {
        same_length = so_far.same_length;
        written = λ x y f. so_far.written x y (back x y f);
        kept = λ i no_hit. so_far.kept i (λ x y f. no_hit x y (up x y f));
        none = λ e x y f. so_far.none e x y (back x y f);
        some = λ e. let w = so_far.some e in (w.0, w.1, up w.0 w.1 w.2);
      }

  pub wrote_more : (tb'' : Table) (m : ℕ) → has s m ≡ true → length tb'' ≡ length tb' → WroteRow p s v tb' tb'' → Wrote made reached (p + 1) v tb tb'' true
  wrote_more tb'' m there same wrote =
      record {
        same_length = same ∙ so_far.same_length;
        written = λ x y f.
            elim (split x y f) [
              | inl g ↦ wrote.stays (entry_number x y) (so_far.written x y g)
              | inr h ↦ ap (λ (i : ℕ). entry tb'' i y) h.0 ∙ wrote.written y h.1
            ];
        kept = λ i no_hit. wrote.kept i (λ q h. no_hit p q (fresh_here q h)) ∙ so_far.kept i (λ x y f. no_hit x y (up x y f));
        none = λ e. absurd (true≢false e);
        some = λ e. (p, m, fresh_here m there);
      }
