-- Searches among numbers.
--
--   any n p            some number below n passes the test p
--   listed xs k        k is one of the numbers xs
--   Lowest P k         k is the lowest number of which P holds
--   Finds P r          r is the lowest number of which P holds, or none where there is no such number
--   FindsPair P r      r is the lowest number that P joins to some number, and the lowest that it is
--                      joined to; or none where P joins no two numbers
use Rattle.std.specs.Prelude.{ℕ, zero, suc, ◌<◌, Bool, false, ◌||◌, List, length, Some, None, Option, nat_eq, slice_index}

unfoldable pub any : ℕ → (ℕ → Bool) → Bool
any zero p = false
any (suc n) p = p n || any n p

unfoldable pub listed : List ℕ → ℕ → Bool
listed xs k = any (length xs) (λ i. nat_eq k (slice_index xs i))

abbrev pub Lowest : (ℕ → Type 0) → ℕ → Type 0
Lowest P k = P k × ((i : ℕ) → i < k → ¬ P i)

abbrev pub Finds : (ℕ → Type 0) → Option ℕ → Type 0
Finds P None = (k : ℕ) → ¬ P k
Finds P (Some k) = Lowest P k

abbrev pub FindsPair : (ℕ → ℕ → Type 0) → Option (ℕ × ℕ) → Type 0
FindsPair P None = (j k : ℕ) → ¬ P j k
FindsPair P (Some (j, k)) = Lowest (λ i. (l : ℕ) × P i l) j × Lowest (P j) k
