-- The sets of the rails: one fact, or two.
use Rattle.std.proofs.Common.{◌≡◌, ℕ, ◌^◌, ◌<◌, ◌≤◌, ◌&&◌, ◌||◌, ◌==◌, ltb, arith}
use Rattle.std.proofs.lemmas.Bool.Decides.{nat_tests}
use Rattle.sets.specs.declared.facts.FactSet.{FactSet}
use Rattle.sets.specs.Facts.{has}
use Rattle.sets.proofs.FactLaws.{is_set_of}
use Rattle.cases.specs.Own.{facts_by}

pub is_one : (n a : ℕ) (r : FactSet) → r.low < 2 ^ 64 → r.high < 2 ^ 64 → n ≤ 128 → a < n
    → ((f : ℕ) → has r f ≡ (f == a && ltb f 128)) → r ≡ facts_by n (λ f. f == a)
is_one n a r l h few low same = is_set_of r (λ f. ltb f n && f == a) l h (λ f. let e = same f in grind (arith, nat_tests))

pub is_two : (n a b : ℕ) (s r : FactSet) → r.low < 2 ^ 64 → r.high < 2 ^ 64 → n ≤ 128 → a < n → b < n
    → ((f : ℕ) → has s f ≡ (f == a && ltb f 128)) → ((f : ℕ) → has r f ≡ (has s f || (f == b && ltb f 128)))
    → r ≡ facts_by n (λ f. f == a || f == b)
is_two n a b s r l h few low next one same =
    is_set_of r (λ f. ltb f n && (f == a || f == b)) l h (λ f. let e = one f in let d = same f in grind (arith, nat_tests))
