-- A set without one of its facts is smaller.
use Rattle.std.proofs.Common.{◌≡◌, ℕ, zero, suc, ◌<◌, ◌≤◌, Bool, true, false, not, ◌&&◌, eqb, sym, inl, inr, arith}
use Rattle.std.proofs.lemmas.Bool.{cases_eq}
use Rattle.std.proofs.lemmas.Bool.Decides.{nat_tests}
use Rattle.sets.specs.declared.facts.FactSet.{FactSet}
use Rattle.sets.specs.Facts.{has}
use Rattle.sets.specs.Walk.{count, size}
use Rattle.sets.proofs.FactLaws.{has_below}

count_le : (p q : ℕ → Bool) (n : ℕ) → ((k : ℕ) → p k ≡ true → q k ≡ true) → count p n ≤ count q n
unfolding count
count_le p q zero h = omega arith
count_le p q (suc n) h = let i = count_le p q n h in let a = h n in grind arith

count_less : (p q : ℕ → Bool) (m n : ℕ) → m < n → ((k : ℕ) → p k ≡ true → q k ≡ true) → q m ≡ true → p m ≡ false → count p n < count q n
unfolding count
count_less p q m zero b h y z = absurd (omega arith)
count_less p q m (suc n) b h y z =
    elim (cases_eq m n) [
      | inl e ↦
          let l = count_le p q n h in let off : p n ≡ false = rw (sym e) z in let on : q n ≡ true = rw (sym e) y in
          rw (off, on) (omega arith)
      | inr ne ↦ let i = count_less p q m n (omega arith) h y z in let a = h n in grind arith
    ]

pub size_less : (s r : FactSet) (m : ℕ) → has s m ≡ true → ((k : ℕ) → has r k ≡ (has s k && not (eqb k m))) → size r < size s
unfolding size
size_less s r m y law =
    count_less (has r) (has s) m 128 (has_below s m y) (λ k h. let l = law k in grind (arith, nat_tests)) y (let l = law m in grind (arith, nat_tests))
