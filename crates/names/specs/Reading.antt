-- What reading a names file answers and writes, on all inputs.
--
--   RecordRead file p r        what reading the name record at byte p answers: its entry, and the byte behind it; or its
--                              refusal
--   AllRead m file read r      what reading all records into places that hold no name answers and writes
--   Holding m N places places'    the first m places are written: each holds the name that N gives its job, with 0 in the
--                              bytes behind it, so that they give a task of m jobs the names N; the places behind them
--                              are kept
--   NamesRead m file places r places'   reading: the file's names are written, or the first fault is told and nothing is
--                              written
--   ExactNames m places file r     a file is refused only if it is the bytes of no entries that may be read, or there are
--                              too few places
--   OneNamesReading            reading a names file into places has one answer, and leaves the places in one way
use Rattle.std.specs.Prelude.{◌≡◌, ℕ, ◌<◌, ◌≤◌, ◌≢◌, ◌⊎◌, List, ◌∷◌, length, drop, Some, Ok, Err, Result, slice_get, ⊤}
use Rattle.planning.specs.declared.refusal.Refusal.{Refusal}
use Rattle.planning.specs.Refusals.{told}
use Rattle.pages.specs.declared.name.NamePlace.{NamePlace}
use Rattle.pages.specs.Names.{Names, place_of, named_by}
use Rattle.files.specs.Records.{NJ, body_at, behind, Due, NotDue, RefusedAt}
use Rattle.files.specs.SheetFiles.{SameReading}
use Rattle.names.specs.declared.read.NameRecord.{NameRecord}
use Rattle.names.specs.NameFiles.{Entry, names_bytes, NamesFit, given}
use Rattle.names.specs.NameFaults.{IsBody, FirstNameFault, Refusing}

abbrev pub RecordRead : List ℕ → ℕ → Result NameRecord Refusal → Type 0
RecordRead file p (Ok r) =
    Due file p NJ × IsBody (body_at file p) × (body_at file p ≡ r.job ∷ r.name.now) × (r.end ≡ behind file p)
RecordRead file p (Err e) =
    RefusedAt p (λ c. NotDue file p NJ c ⊎ (Due file p NJ × (¬ IsBody (body_at file p)) × (c ≡ 15))) e

abbrev pub AllRead : ℕ → List ℕ → List NamePlace → Result Unit Refusal → Type 0
AllRead m file read (Ok _) =
    (es : List Entry) × (file ≡ names_bytes es) × NamesFit m es
    × ((j : ℕ) → j < length read → slice_get read j ≡ Some (place_of (given es j)))
AllRead m file read (Err e) = FirstNameFault m file (told e).0 (told e).1

pub record Holding (m : ℕ) (N : Names) (places places' : List NamePlace) : Type 0 where
  pub written : (j : ℕ) → j < m → slice_get places' j ≡ Some (place_of (N j))
  pub kept : drop m places' ≡ drop m places
  pub same_length : length places' ≡ length places
  pub named : (j : ℕ) → named_by m places' j ≡ N j

abbrev pub NamesRead : ℕ → List ℕ → List NamePlace → Result Unit Refusal → List NamePlace → Type 0
NamesRead m file places (Ok _) places' =
    (es : List Entry) × (file ≡ names_bytes es) × NamesFit m es × (m ≤ length places) × Holding m (given es) places places'
NamesRead m file places (Err e) places' = Refusing m (length places) file (told e).0 (told e).1 × (places' ≡ places)

abbrev pub ExactNames : ℕ → List NamePlace → List ℕ → Result Unit Refusal → Type 0
ExactNames m places file (Ok _) = ⊤
ExactNames m places file (Err e) = (es : List Entry) → NamesFit m es → m ≤ length places → file ≢ names_bytes es

abbrev pub OneNamesReading : Type 0
OneNamesReading = (m : ℕ) (file : List ℕ) (places places' places'' : List NamePlace) (r s : Result Unit Refusal)
    → NamesRead m file places r places' → NamesRead m file places s places'' → SameReading r s × (places' ≡ places'')
