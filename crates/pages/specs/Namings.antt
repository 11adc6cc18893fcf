-- Why the names in lent places are names. These are lemmas, for the ghost members that the named tasks owe.
use Rattle.std.specs.Prelude.{◌≡◌, ℕ, ◌≤◌, Bool, true, false, cond, ◌&&◌, List, [], ◌∷◌, length, take, Some, None, Option, nat_le, nat_lt, refl}
use Rattle.std.proofs.Common.{sym, ap, subst, length-take}
use Rattle.std.proofs.Math.Nat.{le_trans, min-le_left}
use Rattle.std.specs.List.{AllByRecursion, list_all, slice_get}
use Rattle.std.proofs.lemmas.Bool.{and_parts, leb-true, le-ltb}
use Rattle.pages.specs.declared.name.NamePlace.{NamePlace}
use Rattle.pages.specs.Names.{Printable, printable, IsName, Naming, name_in, held_name, name_at, named_by}

pub all_printable : (xs : List ℕ) → list_all printable xs ≡ true → AllByRecursion Printable xs
all_printable [] e = tt
all_printable (x ∷ xs) e =
    let (first, rest) = and_parts (printable x) (list_all printable xs) e in
    let (low, high) = and_parts (nat_le 32 x) (nat_le x 126) first in
    ((leb-true 32 x low, leb-true x 126 high), all_printable xs rest)

empty_is : IsName []
empty_is = (leb-true 0 16 refl, tt)

-- a choice between a name and the empty name
chosen : (b : Bool) (s : List ℕ) → (b ≡ true → IsName s) → IsName (cond b s [])
chosen true s h = h refl
chosen false s h = empty_is

in_place : (p : NamePlace) → IsName (name_in p)
in_place p =
    chosen (nat_le p.length 16 && list_all printable (take p.length p.bytes)) (take p.length p.bytes)
    (λ e.
    let (short, fine) = and_parts (nat_le p.length 16) (list_all printable (take p.length p.bytes)) e in (
      subst (λ (k : ℕ). k ≤ 16) (sym (length-take p.length p.bytes))
          (le_trans (min-le_left p.length (length p.bytes)) (leb-true p.length 16 short)),
      all_printable (take p.length p.bytes) fine,
    ))

held_is : (o : Option NamePlace) → IsName (held_name o)
held_is (Some p) = in_place p
held_is None = empty_is

pub named_by_naming : (m : ℕ) (places : List NamePlace) → Naming m (named_by m places)
named_by_naming m places = record {
  named = λ j. chosen (nat_lt j m) (name_at places j) (λ _. held_is (slice_get places j));
  unnamed = λ j le. ap (λ (b : Bool). cond b (name_at places j) []) (le-ltb j m le);
}
