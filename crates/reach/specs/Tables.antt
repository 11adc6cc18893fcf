-- The table of pairs: the entry of a pair holds the first layer that has it, or 65,535 while none has.
--
--   Table                 the entries
--   entry tb p q          the entry of the pair {p, q}
--   Room n tb             the table has an entry for each pair of n facts
--   told e                the two numbers of the refusal that the error e stands for: 9, at place 0
--   Short n tb e          the table has too few entries, which is refused, and e says how many, and for how many facts
--   text e                how e reads, as `9 entries for 4 facts`
--   Reads n t tb          the table of n facts read as layer t: an entry up to t is reached, a larger one
--                         isn't
--   KeptBehind n tb tb'   what stands behind the entries of n facts is as it was
--   LayerZero T tb tb'    layer 0 is written: 0 for the pairs within the start, 65,535 for the others
--   Opening T tb r tb'    what opening answers and writes: layer 0, or that the table is short
--   New T R t tb p q      {p, q} isn't reached in the table read as layer t, and enters behind it
--   NextLayer T R t tb tb'   there is a new pair, and t + 1 is written to the entry of each and to no other
--   Growing T R t tb r tb'   what growing answers and writes: the next layer; nothing where no pair is new, or t
--                         is n(n+1)/2 or more
--   GoalRead T t tb       every pair of the goal is reached in the table read as layer t
--   LargestOf Is s d      d is the largest value of the facts of s, 0 for an empty s; Is f x says that x is
--                         the value of fact f
--   LargestWith p s tb d  d is the largest entry of p with the facts of s, 0 for an empty s
--   LargestWithin s tb d  d is the largest entry of the pairs of facts of s, 0 for an empty s
--   Largest T tb d        d is the largest entry of the pairs of the goal, 0 for an empty goal
--   GoalTold T t tb r     what reading the goal answers: the largest entry of its pairs, if all are reached
use Rattle.std.specs.Prelude.{◌≡◌, ℕ, ◌+◌, ◌<◌, ◌≤◌, Bool, true, false, ◌&&◌, ◌⊎◌, List, ◌++◌, length, Some, None, Ok, Err, Option, Result, ◌≢◌, slice_index, codes, decimal, if◌then◌else◌}
use Rattle.sets.specs.declared.facts.FactSet.{FactSet}
use Rattle.sets.specs.Facts.{has}
use Rattle.strips.specs.Tasks.{Meaning}
use Rattle.strips.specs.Rules.{Says}
use Rattle.layers.specs.Pairs.{pair_count, entry_number}
use Rattle.layers.specs.Layers.{Pairs, Reached, Enters}
use Rattle.reach.specs.declared.table.ShortTable.{ShortTable}

abbrev pub Table : Type 0
Table = List ℕ

abbrev pub entry : Table → ℕ → ℕ → ℕ
entry tb p q = slice_index tb (entry_number p q)

abbrev pub Room : ℕ → Table → Type 0
Room n tb = pair_count n ≤ length tb

abbrev pub told : ShortTable → ℕ × ℕ
told e = (9, 0)

abbrev pub Short : ℕ → Table → ShortTable → Type 0
Short n tb e = (length tb < pair_count n) × (told e ≡ (9, 0)) × (e ≡ record { entries = length tb; facts = n })

abbrev pub text : ShortTable → List ℕ
text e = decimal e.entries ++ (codes " entries for " ++ (decimal e.facts ++ codes " facts"))

abbrev pub Reads : ℕ → ℕ → Table → Pairs
Reads n t tb p q = (p < n) × (q < n) × (entry tb p q ≤ t)

pub record KeptBehind (n : ℕ) (tb tb' : Table) : Type 0 where
  pub same_length : length tb' ≡ length tb
  pub behind : (i : ℕ) → pair_count n ≤ i → slice_index tb' i ≡ slice_index tb i

pub record LayerZero (T : Meaning) (tb tb' : Table) : Type 0 where
  pub written : (p q : ℕ) → p < T.n → q < T.n → entry tb' p q ≡ (if has T.start p && has T.start q then 0 else 65535)
  pub kept : KeptBehind T.n tb tb'

abbrev pub Opening : Meaning → Table → Result Unit ShortTable → Table → Type 0
Opening T tb (Ok _) tb' = Room T.n tb × LayerZero T tb tb'
Opening T tb (Err e) tb' = Short T.n tb e × (tb' ≡ tb)

abbrev pub New : Meaning → Says → ℕ → Table → Pairs
New T R t tb p q = (p < T.n) × (q < T.n) × (t < entry tb p q) × Enters T R (Reads T.n t tb) p q

pub record NextLayer (T : Meaning) (R : Says) (t : ℕ) (tb tb' : Table) : Type 0 where
  pub some : (p : ℕ) × (q : ℕ) × New T R t tb p q
  pub entries : (p q : ℕ) → p < T.n → q < T.n
      → (New T R t tb p q × (entry tb' p q ≡ t + 1)) ⊎ ((¬ New T R t tb p q) × (entry tb' p q ≡ entry tb p q))
  pub kept : KeptBehind T.n tb tb'

abbrev pub Growing : Meaning → Says → ℕ → Table → Result Bool ShortTable → Table → Type 0
Growing T R t tb (Ok true) tb' = Room T.n tb × (t < pair_count T.n) × NextLayer T R t tb tb'
Growing T R t tb (Ok false) tb' =
    Room T.n tb × ((pair_count T.n ≤ t) ⊎ ((p q : ℕ) → ¬ New T R t tb p q)) × (tb' ≡ tb)
Growing T R t tb (Err e) tb' = Short T.n tb e × (tb' ≡ tb)

abbrev pub GoalRead : Meaning → ℕ → Table → Type 0
GoalRead T t tb = Reached (Reads T.n t tb) (λ f. has T.goal f ≡ true)

pub record LargestOf (Is : ℕ → ℕ → Type 0) (s : FactSet) (d : ℕ) : Type 0 where
  pub most : (f : ℕ) → has s f ≡ true → (x : ℕ) × Is f x × (x ≤ d)
  pub there : ((d ≡ 0) × ((f : ℕ) → has s f ≢ true)) ⊎ ((f : ℕ) × (has s f ≡ true) × Is f d)

abbrev pub LargestWith : ℕ → FactSet → Table → ℕ → Type 0
LargestWith p s tb = LargestOf (λ q x. x ≡ entry tb p q) s

pub record LargestWithin (s : FactSet) (tb : Table) (d : ℕ) : Type 0 where
  pub most : (p q : ℕ) → has s p ≡ true → has s q ≡ true → entry tb p q ≤ d
  pub there : ((d ≡ 0) × ((f : ℕ) → has s f ≢ true))
      ⊎ ((p : ℕ) × (q : ℕ) × (has s p ≡ true) × (has s q ≡ true) × (entry tb p q ≡ d))

abbrev pub Largest : Meaning → Table → ℕ → Type 0
Largest T = LargestWithin T.goal

abbrev pub GoalTold : Meaning → ℕ → Table → Result (Option ℕ) ShortTable → Type 0
GoalTold T t tb (Ok (Some d)) = Room T.n tb × GoalRead T t tb × Largest T tb d
GoalTold T t tb (Ok None) = Room T.n tb × (¬ GoalRead T t tb)
GoalTold T t tb (Err e) = Short T.n tb e
