-- Records: a two-byte mark, a length byte, and a body of that length.
--
--   Mark                    two bytes
--   TK AC ST GO RD NJ       the marks of a task, of a job, of a start, of a goal, of a round and of a name
--   record_bytes k b        the bytes of the record with mark k and body b
--   mark_at file p          the mark of the record at byte p of a file
--   size_at file p          its length byte
--   body_at file p          its body
--   behind file p           the byte behind it
--   place file i            the byte where record i of a file begins, counted from 0
--   Whole file p            the record at byte p ends within the file
--   Due file p k            it does, and its mark is k
--   NotDue file p k c       it doesn't, which is refusal 1; or it has another mark, which is refusal 2
--   RefusedAt p F e         the refusal e tells place p, and a number of which F holds
--   told r                  a record that was read: its mark and its body
--   Found file p r          what reading the record at byte p answers
--   Stands file p bs q      the bytes bs stand in the file from byte p on, and end before byte q
use Rattle.std.specs.Prelude.{◌≡◌, ℕ, zero, suc, ◌+◌, ◌≤◌, ◌⊎◌, List, ◌∷◌, ◌++◌, length, take, drop, Ok, Err, Result, ◌≢◌, slice_index}
use Rattle.planning.specs.declared.refusal.Refusal.{Refusal}
use Rattle.planning.specs.Refusals.{told as numbers}
use Rattle.files.specs.declared.record.Record.{Record}
use Rattle.files.specs.declared.record.Record.TheVariants.{Task, Job, Start, Goal, Round, Name}
use Rattle.files.specs.declared.record.Placed.{Placed}

abbrev pub Mark : Type 0
Mark = ℕ × ℕ

abbrev pub TK : Mark
TK = (0x54, 0x4B)

abbrev pub AC : Mark
AC = (0x41, 0x43)

abbrev pub ST : Mark
ST = (0x53, 0x54)

abbrev pub GO : Mark
GO = (0x47, 0x4F)

abbrev pub RD : Mark
RD = (0x52, 0x44)

abbrev pub NJ : Mark
NJ = (0x4E, 0x4A)

abbrev pub record_bytes : Mark → List ℕ → List ℕ
record_bytes k b = k.0 ∷ (k.1 ∷ (length b ∷ b))

abbrev pub mark_at : List ℕ → ℕ → Mark
mark_at file p = (slice_index file p, slice_index file (p + 1))

abbrev pub size_at : List ℕ → ℕ → ℕ
size_at file p = slice_index file (p + 2)

abbrev pub body_at : List ℕ → ℕ → List ℕ
body_at file p = take (size_at file p) (drop (p + 3) file)

abbrev pub behind : List ℕ → ℕ → ℕ
behind file p = p + 3 + size_at file p

abbrev pub place : List ℕ → ℕ → ℕ
place file zero = 0
place file (suc i) = behind file (place file i)

abbrev pub Whole : List ℕ → ℕ → Type 0
Whole file p = behind file p ≤ length file

abbrev pub Due : List ℕ → ℕ → Mark → Type 0
Due file p k = Whole file p × (mark_at file p ≡ k)

pub data NotDue (file : List ℕ) (p : ℕ) (k : Mark) (c : ℕ) : Type 0 where
  truncated : (¬ Whole file p) → c ≡ 1 → NotDue file p k c
  other_mark : Whole file p → (mark_at file p ≢ k) → c ≡ 2 → NotDue file p k c

abbrev pub RefusedAt : ℕ → (ℕ → Type 0) → Refusal → Type 0
RefusedAt p F e = F (numbers e).0 × ((numbers e).1 ≡ p)

abbrev pub told : Record → Mark × List ℕ
told (Task b) = (TK, b.now)
told (Job b) = (AC, b.now)
told (Start b) = (ST, b.now)
told (Goal b) = (GO, b.now)
told (Round b) = (RD, b.now)
told (Name b) = (NJ, b.now)

abbrev pub Found : List ℕ → ℕ → Result Placed Refusal → Type 0
Found file p (Ok q) = Whole file p × (told q.record ≡ (mark_at file p, body_at file p)) × (q.at ≡ p) × (q.end ≡ behind file p)
Found file p (Err e) =
    ((numbers e ≡ (1, p)) × (¬ Whole file p))
    ⊎ ((numbers e ≡ (2, p)) × Whole file p × ((r : Record) → (told r).0 ≢ mark_at file p))

pub record Stands (file : List ℕ) (p : ℕ) (bs : List ℕ) (q : ℕ) : Type 0 where
  pub end : q ≡ p + length bs
  pub within : q ≤ length file
  pub bytes : drop p file ≡ bs ++ drop q file
