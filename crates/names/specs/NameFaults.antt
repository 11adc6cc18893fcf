-- What is at fault in a names file, record by record.
--
--   IsBody b                  the body b is a job number and a name that can be listed: 2 to 17 bytes, those behind the
--                             first from 32 to 126
--   number_at file p          the job number of the record at byte p
--   Above file i j            j is above the job number of the record in front of record i, if there is one
--   RecordFault m file i p c  record i of the file, which begins at byte p, is at fault, for m jobs: refusal c. Of its
--                             checks the first that fails counts: 1 and 2; 15; 10; 6
--   NameFault m file i c      record i of the file, which is due while bytes are left, is at fault, for m jobs: refusal c
--   FirstNameFault m file c p    refusal c is that of the first record at fault, which begins at byte p
--   Refusing m places file c p   refusal c, at p, is due: there are fewer than m places, or else a record is at fault
use Rattle.std.specs.Prelude.{◌≡◌, ℕ, zero, suc, ◌+◌, ◌<◌, ◌≤◌, List, length, drop, slice_index, ⊤}
use Rattle.files.specs.Records.{NJ, body_at, place, Due, NotDue}
use Rattle.names.specs.NameFiles.{Listable}

abbrev pub IsBody : List ℕ → Type 0
IsBody b = Listable (drop 1 b)

abbrev pub number_at : List ℕ → ℕ → ℕ
number_at file p = slice_index file (p + 3)

abbrev pub Above : List ℕ → ℕ → ℕ → Type 0
Above file zero j = ⊤
Above file (suc i) j = number_at file (place file i) < j

pub data RecordFault (m : ℕ) (file : List ℕ) (i p c : ℕ) : Type 0 where
  not_due : NotDue file p NJ c → RecordFault m file i p c
  bad_name : Due file p NJ → (¬ IsBody (body_at file p)) → c ≡ 15 → RecordFault m file i p c
  no_such_job : Due file p NJ → IsBody (body_at file p) → m ≤ number_at file p → c ≡ 10 → RecordFault m file i p c
  not_rising : Due file p NJ → IsBody (body_at file p) → number_at file p < m → (¬ Above file i (number_at file p)) → c ≡ 6
      → RecordFault m file i p c

abbrev pub NameFault : ℕ → List ℕ → ℕ → ℕ → Type 0
NameFault m file i c = (place file i < length file) × RecordFault m file i (place file i) c

pub record FirstNameFault (m : ℕ) (file : List ℕ) (c p : ℕ) : Type 0 where
  pub at : ℕ
  pub fault : NameFault m file at c
  pub place_is : p ≡ place file at
  pub none_before : (i : ℕ) → i < at → (d : ℕ) → ¬ NameFault m file i d

pub data Refusing (m places : ℕ) (file : List ℕ) (c p : ℕ) : Type 0 where
  short : places < m → c ≡ 9 → p ≡ 0 → Refusing m places file c p
  faulty : m ≤ places → FirstNameFault m file c p → Refusing m places file c p
