-- Pairs of facts by number. A pair has one or two facts; {p} is the pair of p with itself.
--
--   pair_count n        how many pairs n facts have: n(n+1)/2
--   entry_number p q    the number of the pair {p, q}: q(q+1)/2 + p where p ≤ q
use Rattle.std.specs.Prelude.{ℕ, ◌+◌, ◌*◌, ◌/◌, min, max}

unfoldable pub pair_count : ℕ → ℕ
pair_count n = n * (n + 1) / 2

unfoldable pub entry_number : ℕ → ℕ → ℕ
unfolding pair_count
entry_number p q = pair_count (max p q) + min p q
