-- Sets of ordered pairs of facts, as rows of facts.
--
--   row s p            the facts that p is paired with
--   paired s p q       p is paired with q
--   ReadBelow s t tb e      the pairs of s are those among the first e entries of the table that are reached
--                      in it read as layer t, in both orders
--   WroteRow p s v tb tb'    v was written to the entries of p with the facts of s and to no others
--   Fresh made reached n p q    p is below n, and paired with q in the first set but not in the second
--   Wrote made reached n v tb tb' any   v was written to the entries of the fresh pairs and to no others,
--                      and `any` says whether there is one
use Rattle.std.specs.Prelude.{◌≡◌, ℕ, ◌<◌, Bool, true, false, ◌&&◌, length, ◌≢◌, nat_le, nat_lt, slice_index, slice_index_or}
use Rattle.sets.specs.declared.facts.FactSet.{FactSet}
use Rattle.sets.specs.Facts.{has}
use Rattle.layers.specs.Pairs.{entry_number}
use Rattle.reach.specs.declared.pair_set.PairSet.{PairSet}
use Rattle.reach.specs.Tables.{Table, entry}

abbrev pub row : PairSet → ℕ → FactSet
row s p = slice_index_or s.rows p (record { low = 0; high = 0 })

abbrev pub paired : PairSet → ℕ → ℕ → Bool
paired s p q = has (row s p) q

abbrev pub ReadBelow : PairSet → ℕ → Table → ℕ → Type 0
ReadBelow s t tb e = (p q : ℕ) → paired s p q ≡ (nat_lt (entry_number p q) e && nat_le (entry tb p q) t)

pub record WroteRow (p : ℕ) (s : FactSet) (v : ℕ) (tb tb' : Table) : Type 0 where
  pub written : (q : ℕ) → has s q ≡ true → entry tb' p q ≡ v
  pub kept : (i : ℕ) → ((q : ℕ) → has s q ≡ true → i ≢ entry_number p q) → slice_index tb' i ≡ slice_index tb i
  pub stays : (i : ℕ) → slice_index tb i ≡ v → slice_index tb' i ≡ v

pub record Fresh (made reached : PairSet) (n p q : ℕ) : Type 0 where
  pub low : p < n
  pub there : paired made p q ≡ true
  pub absent : paired reached p q ≡ false

pub record Wrote (made reached : PairSet) (n v : ℕ) (tb tb' : Table) (any : Bool) : Type 0 where
  pub same_length : length tb' ≡ length tb
  pub written : (p q : ℕ) → Fresh made reached n p q → entry tb' p q ≡ v
  pub kept : (i : ℕ) → ((p q : ℕ) → Fresh made reached n p q → i ≢ entry_number p q) → slice_index tb' i ≡ slice_index tb i
  pub none : any ≡ false → (p q : ℕ) → ¬ Fresh made reached n p q
  pub some : any ≡ true → (p : ℕ) × (q : ℕ) × Fresh made reached n p q
