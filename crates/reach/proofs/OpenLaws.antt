-- Opening a table: the rows of the start, one after the other, over a table of 65,535.
use Rattle.std.proofs.Common.{◌≡◌, ℕ, ◌<◌, ◌≤◌, true, cond, ◌&&◌, ◌++◌, length, get_or, drop, replicate, None, sym, ◌∙◌, inl, inr, arith}
use Rattle.std.proofs.lemmas.Bool.{cases_Bool, both_ways, and_parts, cond-true, cond-false}
use Rattle.std.proofs.lemmas.Grind.{common_steps}
use Rattle.sets.specs.declared.facts.FactSet.{FactSet}
use Rattle.sets.specs.declared.walk.FactWalk.{FactWalk}
use Rattle.sets.specs.Facts.{has}
use Rattle.sets.specs.Walk.{Takes}
use Rattle.sets.proofs.WalkLaws.{Begun, Met, met_all}
use Rattle.strips.specs.Tasks.{Meaning, Admitted}
use Rattle.layers.specs.Pairs.{pair_count, entry_number}
use Rattle.layers.proofs.PairLaws.{entry_number_below}
use Rattle.reach.specs.Tables.{Table, entry, LayerZero}
use Rattle.reach.proofs.EntryLaws.{entry_number_alike}

-- how far a walk over the start has come that writes 0 to the entries of each of its facts with the start
pub record Opened (start : FactSet) (tb tb' : Table) (w : FactWalk) : Type 0 where
  pub begun : Begun start w
  pub written : Met start w (λ p. (q : ℕ) → has start q ≡ true → entry tb' p q ≡ 0)
  pub kept : (i : ℕ) → ((p q : ℕ) → has start p ≡ true → has start q ≡ true → i ≡ entry_number p q → ⊥) → get_or tb' i 0 ≡ get_or tb i 0

-- the table with its first e entries at 65,535
abbrev pub cleared : ℕ → Table → Table
cleared e tb = replicate e 65535 ++ drop e tb

cleared_below : (e i : ℕ) (tb : Table) → i < e → get_or (cleared e tb) i 0 ≡ 65535
cleared_below e i tb lt = grind (arith, common_steps)

cleared_behind : (e i : ℕ) (tb : Table) → e ≤ i → get_or (cleared e tb) i 0 ≡ get_or tb i 0
cleared_behind e i tb past = grind (arith, common_steps)

module _ (T : Meaning) (tb tb' : Table) (w u : FactWalk) (ok : Admitted T)
    (so_far : Opened T.start (cleared (pair_count T.n) tb) tb' w) (step : Takes w None u) where
  within : (p q : ℕ) → p < T.n → q < T.n → entry tb' p q ≡ cond (has T.start p && has T.start q) 0 65535
  within p q hp hq =
      elim (cases_Bool (has T.start p && has T.start q)) [
        | inl y ↦
            let (at_p, at-q) = and_parts _ _ y in
            met_all T.start w u (λ k. (j : ℕ) → has T.start j ≡ true → entry tb' k j ≡ 0) step so_far.written p at_p q at-q
            ∙ sym (cond-true _ 0 65535 y)
        | inr n ↦
            so_far.kept (entry_number p q) (λ x y hx hy e. both_ways _ n (both x y hx hy e))
            ∙ cleared_below (pair_count T.n) (entry_number p q) tb (entry_number_below p q T.n hp hq) ∙ sym (cond-false _ 0 65535 n)
      ]
    where
      both : (x y : ℕ) → has T.start x ≡ true → has T.start y ≡ true → entry_number p q ≡ entry_number x y
          → (has T.start p && has T.start q) ≡ true
      both x y hx hy e =
          elim (entry_number_alike x y p q e) [
            | inl (is_x, is_y) ↦ rw (is_x, is_y, hx, hy)
            | inr (is_y, is_x) ↦ rw (is_y, is_x, hy, hx)
          ]

  pub opened_all : length tb' ≡ length tb → LayerZero T tb tb'
  opened_all same =
      record {
        written = within;
        kept = record {
          same_length = same;
          behind = λ i past.
              so_far.kept i (λ p q hp hq e. let b = entry_number_below p q T.n (ok.start p hp) (ok.start q hq) in omega arith)
              ∙ cleared_behind (pair_count T.n) i tb past;
        };
      }
