-- Names of jobs.
--
--   Names              which name each job number has, as bytes; a number without one has the empty name
--   Printable b        the byte b is from 32 to 126
--   printable b        the same as a test
--   IsName s           s is a name: at most 16 bytes, all printable. The empty name is one
--   Naming m N         N is what a task of m job numbers may answer: names, and none from m up
--   name_in p          the name that the place p holds: its first bytes, as many as its length says, if they are a
--                      name, else the empty name
--   held_name o        the name that the place o holds, empty where there is no place
--   name_at places j   the name at place j, empty where there is no such place
--   named_by m places  the names that these places give a task of m jobs: places from m up don't count
--   place_of s         the place that holds the name s: its length and its bytes, and 0 in every byte behind them
use Rattle.std.specs.Prelude.{◌≡◌, ℕ, ◌-◌, ◌≤◌, Bool, ◌&&◌, if◌then◌else◌, List, [], ◌++◌, length, take, replicate, Some, None, Option, nat_le, nat_lt}
use Rattle.std.specs.List.{AllByRecursion, list_all, slice_get}
use Rattle.pages.specs.declared.name.NamePlace.{NamePlace}

abbrev pub Names : Type 0
Names = ℕ → List ℕ

abbrev pub Printable : ℕ → Type 0
Printable b = (32 ≤ b) × (b ≤ 126)

abbrev pub printable : ℕ → Bool
printable b = nat_le 32 b && nat_le b 126

abbrev pub IsName : List ℕ → Type 0
IsName s = (length s ≤ 16) × AllByRecursion Printable s

pub record Naming (m : ℕ) (N : Names) : Type 0 where
  pub named : (j : ℕ) → IsName (N j)
  pub unnamed : (j : ℕ) → m ≤ j → N j ≡ []

abbrev pub name_in : NamePlace → List ℕ
name_in p =
    if nat_le p.length 16 && list_all printable (take p.length p.bytes) then take p.length p.bytes else []

abbrev pub held_name : Option NamePlace → List ℕ
held_name (Some p) = name_in p
held_name None = []

abbrev pub name_at : List NamePlace → ℕ → List ℕ
name_at places j = held_name (slice_get places j)

abbrev pub named_by : ℕ → List NamePlace → Names
named_by m places j = if nat_lt j m then name_at places j else []

abbrev pub place_of : List ℕ → NamePlace
place_of s = record { length = length s; bytes = s ++ replicate (16 - length s) 0 }
