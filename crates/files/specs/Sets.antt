-- Sets of facts as lists.
--
--   rising p k n               the numbers that pass the test p, in rising order, among the n numbers from k up
--   facts_of s                 the facts of the set s, in rising order
--   Plain s                    the set s is nothing but its facts, as every set in the code is
--   ListFault k b xs c         the list xs of numbers below b is at fault: refusal c, k for a number too large, else 6
--   ListChecked k b xs at r    what the check of a list answers; at is the byte of its record
--   ListRead n xs at r         what reading a list of facts below n answers; at is the byte of its record
use Rattle.std.specs.Prelude.{◌≡◌, ℕ, zero, suc, Bool, true, if◌then◌else◌, List, [], ◌∷◌, Ok, Err, Result}
use Rattle.sets.specs.declared.facts.FactSet.{FactSet}
use Rattle.sets.specs.Facts.{has, set_of}
use Rattle.planning.specs.declared.refusal.Refusal.{Refusal}
use Rattle.planning.specs.Lists.{clean, fault_number, FirstAtFault}
use Rattle.files.specs.Records.{RefusedAt}

unfoldable pub rising : (ℕ → Bool) → ℕ → ℕ → List ℕ
rising p k zero = []
rising p k (suc n) = if p k then k ∷ rising p (suc k) n else rising p (suc k) n

abbrev pub facts_of : FactSet → List ℕ
facts_of s = rising (has s) 0 128

abbrev pub Plain : FactSet → Type 0
Plain s = s ≡ set_of (has s)

abbrev pub ListFault : ℕ → ℕ → List ℕ → ℕ → Type 0
ListFault k b xs c = (i : ℕ) × FirstAtFault b xs i × (c ≡ fault_number k b xs i)

abbrev pub ListChecked : ℕ → ℕ → List ℕ → ℕ → Result Unit Refusal → Type 0
ListChecked k b xs at (Ok _) = clean b xs ≡ true
ListChecked k b xs at (Err e) = RefusedAt at (ListFault k b xs) e

abbrev pub ListRead : ℕ → List ℕ → ℕ → Result FactSet Refusal → Type 0
ListRead n xs at (Ok s) = (clean n xs ≡ true) × (facts_of s ≡ xs) × Plain s
ListRead n xs at (Err e) = RefusedAt at (ListFault 5 n xs) e
