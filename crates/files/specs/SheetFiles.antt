-- Sheet files: their bytes, and what reading one answers and writes, on all inputs.
--
-- A sheet file is records of rounds up to its end, each with a list of job numbers as its body.
--
--   sheet_bytes rs            the bytes of the rounds rs, each a list of job numbers
--   RoundRead file p r        what reading the round record at byte p answers: its list, and the byte behind it
--   RoundFault m places r file p c    the round record at byte p is at fault, with m jobs, that many places, and
--                             r rounds in use: refusal c
--   SheetFileFault m places r file i c    record i of the file, which is due while bytes are left, is at fault, with
--                             r rounds in use in front of the file's
--   FirstSheetFault m places r file c p    refusal c is that of the first record at fault, which begins at byte p
--   Refusing m places r file c p    refusal c, at p, is due: there are fewer places than rounds in use, or else a record
--                             is at fault
--   RoundsFit m places r rs   the rounds rs can all be added behind r rounds in use: their jobs are below m and rise,
--                             and there is room
--   RoundsChecked m places r file a    what the check of a whole file answers
--   AllAdded b sh rs b' sh'   adding the rounds rs in order leads from the book b and the sheet sh to b' and sh'
--   Read b sh file r b' sh'   reading a sheet file: all its rounds are added, or none
--   ExactReading b sh file r  a file is refused only if it is the bytes of no rounds that can all be added
--   OneList                   a file is the bytes of at most one list of rounds
--   SameReading r s           two answers of reading are one: both accept, or both refuse with the same number and place
--   OneReading                reading a file into a book and a sheet has one answer, and leaves one book, and one sheet
--                             as far as the jobs in its places go
use Rattle.std.specs.Prelude.{◌≡◌, ℕ, ◌+◌, ◌<◌, ◌≤◌, true, false, List, [], ◌∷◌, length, map, Ok, Err, Result, ◌≢◌, ⊤}
use Rattle.std.specs.List.{All, flat_map}
use Rattle.std.specs.Borrow.{Bor}
use Rattle.sets.specs.declared.jobs.JobSet.{JobSet}
use Rattle.sets.specs.Jobs.{includes}
use Rattle.planning.specs.declared.book.Book.{Book}
use Rattle.planning.specs.declared.refusal.Refusal.{Refusal}
use Rattle.planning.specs.Refusals.{told}
use Rattle.planning.specs.Lists.{clean}
use Rattle.planning.specs.Adding.{free, Added}
use Rattle.files.specs.Records.{RD, record_bytes, body_at, behind, place, Due, NotDue, RefusedAt}
use Rattle.files.specs.Sets.{ListFault}

abbrev pub sheet_bytes : List (List ℕ) → List ℕ
sheet_bytes = flat_map (record_bytes RD)

abbrev pub RoundRead : List ℕ → ℕ → Result (Bor (List ℕ) × ℕ) Refusal → Type 0
RoundRead file p (Ok (js, q)) = Due file p RD × (js.now ≡ body_at file p) × (q ≡ behind file p)
RoundRead file p (Err e) = RefusedAt p (NotDue file p RD) e

pub data RoundFault (m places r : ℕ) (file : List ℕ) (p c : ℕ) : Type 0 where
  not_due : NotDue file p RD c → RoundFault m places r file p c
  jobs : Due file p RD → ListFault 10 m (body_at file p) c → RoundFault m places r file p c
  full : Due file p RD → clean m (body_at file p) ≡ true → free places r ≡ false → c ≡ 11 → RoundFault m places r file p c

abbrev pub SheetFileFault : ℕ → ℕ → ℕ → List ℕ → ℕ → ℕ → Type 0
SheetFileFault m places r file i c = (place file i < length file) × RoundFault m places (r + i) file (place file i) c

pub record FirstSheetFault (m places r : ℕ) (file : List ℕ) (c p : ℕ) : Type 0 where
  pub at : ℕ
  pub fault : SheetFileFault m places r file at c
  pub place_is : p ≡ place file at
  pub none_before : (i : ℕ) → i < at → (d : ℕ) → ¬ SheetFileFault m places r file i d

pub data Refusing (m places r : ℕ) (file : List ℕ) (c p : ℕ) : Type 0 where
  short : places < r → c ≡ 9 → p ≡ 0 → Refusing m places r file c p
  faulty : r ≤ places → FirstSheetFault m places r file c p → Refusing m places r file c p

pub record RoundsFit (m places r : ℕ) (rs : List (List ℕ)) : Type 0 where
  pub places_for : r ≤ places
  pub lists : All (λ js. clean m js ≡ true) rs
  pub room : (i : ℕ) → i < length rs → free places (r + i) ≡ true

abbrev pub RoundsChecked : ℕ → ℕ → ℕ → List ℕ → Result Unit Refusal → Type 0
RoundsChecked m places r file (Ok _) = (rs : List (List ℕ)) × (file ≡ sheet_bytes rs) × RoundsFit m places r rs
RoundsChecked m places r file (Err e) = Refusing m places r file (told e).0 (told e).1

abbrev pub AllAdded : Book → List JobSet → List (List ℕ) → Book → List JobSet → Type 0
AllAdded b sh [] b' sh' = (b' ≡ b) × (sh' ≡ sh)
AllAdded b sh (js ∷ rs) b' sh' =
    (b₁ : Book) × (sh₁ : List JobSet) × Added b sh js (Ok tt) b₁ sh₁ × AllAdded b₁ sh₁ rs b' sh'

abbrev pub Read : Book → List JobSet → List ℕ → Result Unit Refusal → Book → List JobSet → Type 0
Read b sh file (Ok _) b' sh' =
    (rs : List (List ℕ)) × (file ≡ sheet_bytes rs) × RoundsFit b.m (length sh) b.rounds rs × AllAdded b sh rs b' sh'
Read b sh file (Err e) b' sh' = Refusing b.m (length sh) b.rounds file (told e).0 (told e).1 × (b' ≡ b) × (sh' ≡ sh)

abbrev pub ExactReading : Book → List JobSet → List ℕ → Result Unit Refusal → Type 0
ExactReading b sh file (Ok _) = ⊤
ExactReading b sh file (Err e) = (rs : List (List ℕ)) → RoundsFit b.m (length sh) b.rounds rs → file ≢ sheet_bytes rs

abbrev pub OneList : Type 0
OneList = (file : List ℕ) (rs rs' : List (List ℕ)) → file ≡ sheet_bytes rs → file ≡ sheet_bytes rs' → rs ≡ rs'

abbrev pub SameReading : Result Unit Refusal → Result Unit Refusal → Type 0
SameReading (Ok _) (Ok _) = ⊤
SameReading (Err e) (Err e') = told e ≡ told e'
SameReading _ _ = ⊥

abbrev pub OneReading : Type 0
OneReading = (b b' b'' : Book) (sh sh' sh'' : List JobSet) (file : List ℕ) (r s : Result Unit Refusal)
    → Read b sh file r b' sh' → Read b sh file s b'' sh'' → SameReading r s × (b' ≡ b'') × (map includes sh' ≡ map includes sh'')
