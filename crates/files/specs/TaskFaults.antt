-- What is at fault in a task file, record by record.
--
-- Record 0 of a task file is TK, whose body is the numbers n of facts and m of jobs; records 1 to m are AC, then come
-- ST and GO; behind them the file ends.
--
--   Sized b                    the length of a job's body b is 4 and its three list lengths
--   needs_of b, adds_of b, deletes_of b    its three lists
--   BodyFault n b c            the job's body b is at fault, in a task of n facts: refusal c
--   n_of file, m_of file       the numbers of facts and of jobs, as TK's body has them
--   TaskFault file rows c      TK is at fault, where that many rows are supplied
--   JobFault n file p c        the job record at byte p is at fault
--   FactsFault k n file p c    the record of mark k at byte p, a list of facts, is at fault
--   TaskFileFault file rows i c    record i is at fault: refusal c; record m + 3 is what follows the last one, and at
--                              fault if bytes do
--   FirstTaskFault file rows c p   refusal c is that of the first record that is at fault, which begins at byte p
use Rattle.std.specs.Prelude.{◌≡◌, ℕ, suc, ◌+◌, ◌<◌, ◌≤◌, true, List, length, take, drop, ◌≢◌, slice_index}
use Rattle.strips.specs.Headers.{Limits}
use Rattle.planning.specs.Lists.{clean}
use Rattle.files.specs.Records.{Mark, TK, AC, ST, GO, size_at, body_at, place, Due, NotDue}
use Rattle.files.specs.Sets.{ListFault}

abbrev pub Sized : List ℕ → Type 0
Sized b = (4 ≤ length b) × (length b ≡ 4 + slice_index b 1 + slice_index b 2 + slice_index b 3)

abbrev pub needs_of : List ℕ → List ℕ
needs_of b = take (slice_index b 1) (drop 4 b)

abbrev pub adds_of : List ℕ → List ℕ
adds_of b = take (slice_index b 2) (drop (4 + slice_index b 1) b)

abbrev pub deletes_of : List ℕ → List ℕ
deletes_of b = take (slice_index b 3) (drop (4 + slice_index b 1 + slice_index b 2) b)

pub data BodyFault (n : ℕ) (b : List ℕ) (c : ℕ) : Type 0 where
  wrong_length : (¬ Sized b) → c ≡ 3 → BodyFault n b c
  needs : Sized b → ListFault 5 n (needs_of b) c → BodyFault n b c
  adds : Sized b → clean n (needs_of b) ≡ true → ListFault 5 n (adds_of b) c → BodyFault n b c
  deletes : Sized b → clean n (needs_of b) ≡ true → clean n (adds_of b) ≡ true → ListFault 5 n (deletes_of b) c → BodyFault n b c

abbrev pub n_of : List ℕ → ℕ
n_of file = slice_index file 3

abbrev pub m_of : List ℕ → ℕ
m_of file = slice_index file 4

pub data TaskFault (file : List ℕ) (rows c : ℕ) : Type 0 where
  not_due : NotDue file 0 TK c → TaskFault file rows c
  wrong_length : Due file 0 TK → (size_at file 0 ≢ 2) → c ≡ 3 → TaskFault file rows c
  fact_count : Due file 0 TK → size_at file 0 ≡ 2 → (¬ Limits (n_of file)) → c ≡ 4 → TaskFault file rows c
  few_rows : Due file 0 TK → size_at file 0 ≡ 2 → Limits (n_of file) → rows < m_of file → c ≡ 9 → TaskFault file rows c

pub data JobFault (n : ℕ) (file : List ℕ) (p c : ℕ) : Type 0 where
  not_due : NotDue file p AC c → JobFault n file p c
  body : Due file p AC → BodyFault n (body_at file p) c → JobFault n file p c

pub data FactsFault (k : Mark) (n : ℕ) (file : List ℕ) (p c : ℕ) : Type 0 where
  not_due : NotDue file p k c → FactsFault k n file p c
  list : Due file p k → ListFault 5 n (body_at file p) c → FactsFault k n file p c

pub data TaskFileFault (file : List ℕ) (rows i c : ℕ) : Type 0 where
  task : i ≡ 0 → TaskFault file rows c → TaskFileFault file rows i c
  job : (j : ℕ) → i ≡ suc j → j < m_of file → JobFault (n_of file) file (place file i) c → TaskFileFault file rows i c
  start : i ≡ m_of file + 1 → FactsFault ST (n_of file) file (place file i) c → TaskFileFault file rows i c
  goal : i ≡ m_of file + 2 → FactsFault GO (n_of file) file (place file i) c → TaskFileFault file rows i c
  bytes_follow : i ≡ m_of file + 3 → place file i < length file → c ≡ 8 → TaskFileFault file rows i c

pub record FirstTaskFault (file : List ℕ) (rows c p : ℕ) : Type 0 where
  pub at : ℕ
  pub fault : TaskFileFault file rows at c
  pub place_is : p ≡ place file at
  pub none_before : (i : ℕ) → i < at → (d : ℕ) → ¬ TaskFileFault file rows i d
