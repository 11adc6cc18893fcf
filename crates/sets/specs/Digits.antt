-- Words as rows of binary digits.
--
--   bit w k      digit k of the number w is set; digit 0 is the lowest
--   word n p     the number of n digits whose digit k is set exactly if p k
use Rattle.std.specs.Prelude.{ℕ, zero, suc, ◌+◌, ◌*◌, Bool, ◌==◌, if◌then◌else◌}
use Rattle.std.specs.Int.{bit_at}

unfoldable pub bit : ℕ → ℕ → Bool
bit w k = bit_at w k == 1

unfoldable pub word : ℕ → (ℕ → Bool) → ℕ
word zero p = 0
word (suc n) p = (if p 0 then 1 else 0) + 2 * word n (λ k. p (suc k))
