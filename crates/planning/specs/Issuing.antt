-- Issuing a book, asking the book that is issued, and reopening it.
--
--   SoundSheet T R b tb sh      the task has the book's n and m, the table an entry for each pair, the sheet a place for
--                               each round, and sound is the verdict on the rounds in use
--   Unsound T R b tb sh e       that isn't so, and e is the refusal: 9 where task, table or sheet doesn't fit, as in
--                               judging, else 14
--   SoundOrNot T R b tb sh r    what asking whether the sheet is sound answers
--   Issuing T R b tb sh r       what issuing answers: the issued book, which keeps the book as it is; or the
--                               refusal, and the book as it is
--   Reopened i b                reopening the issued book i gives the book b
--   in_round o j                the round o, where there is one, has job j
--   has_job rs r j              job j is in round r of the rounds rs; no job is in a round beyond them
--   JobAsked i sh r j a         what the issued book i answers when it is asked for job j in round r
use Rattle.std.specs.Prelude.{◌≡◌, ℕ, ◌<◌, ◌≤◌, Bool, false, ◌⊎◌, List, length, Some, None, Ok, Err, Option, Result, slice_get}
use Rattle.sets.specs.declared.jobs.JobSet.{JobSet}
use Rattle.strips.specs.Tasks.{Meaning}
use Rattle.strips.specs.Rules.{Says}
use Rattle.strips.specs.Rounds.{Round}
use Rattle.verdicts.specs.declared.verdict.Verdict.{Verdict}
use Rattle.verdicts.specs.Verdicts.{IsSound}
use Rattle.verdicts.specs.Sheets.{rounds_of, VerdictOn}
use Rattle.reach.specs.Tables.{Table}
use Rattle.planning.specs.declared.book.Book.{Book}
use Rattle.planning.specs.declared.issued.Issued.{Issued}
use Rattle.planning.specs.declared.issued.NotIssued.{NotIssued}
use Rattle.planning.specs.declared.refusal.Refusal.{Refusal}
use Rattle.planning.specs.Refusals.{told}
use Rattle.planning.specs.Calls.{Fits}

abbrev pub SoundSheet : Meaning → Says → Book → Table → List JobSet → Type 0
SoundSheet T R b tb sh =
    Fits T b tb × (b.rounds ≤ length sh) × ((v : Verdict) × VerdictOn T R (rounds_of T.m b.rounds sh) v × IsSound v)

pub data Unsound (T : Meaning) (R : Says) (b : Book) (tb : Table) (sh : List JobSet) (e : Refusal) : Type 0 where
  misfit : (¬ Fits T b tb) ⊎ (length sh < b.rounds) → told e ≡ (9, 0) → Unsound T R b tb sh e
  unsound : Fits T b tb → b.rounds ≤ length sh → (v : Verdict) → VerdictOn T R (rounds_of T.m b.rounds sh) v → ¬ IsSound v
      → told e ≡ (14, 0) → Unsound T R b tb sh e

abbrev pub SoundOrNot : Meaning → Says → Book → Table → List JobSet → Result Unit Refusal → Type 0
SoundOrNot T R b tb sh (Ok _) = SoundSheet T R b tb sh
SoundOrNot T R b tb sh (Err e) = Unsound T R b tb sh e

abbrev pub Issuing : Meaning → Says → Book → Table → List JobSet → Result Issued NotIssued → Type 0
Issuing T R b tb sh (Ok i) = SoundSheet T R b tb sh × (i ≡ record { book = b })
Issuing T R b tb sh (Err e) = Unsound T R b tb sh e.refusal × (e.book ≡ b)

abbrev pub Reopened : Issued → Book → Type 0
Reopened i b = b ≡ i.book

abbrev pub in_round : Option Round → ℕ → Bool
in_round (Some round) j = round j
in_round None j = false

abbrev pub has_job : List Round → ℕ → ℕ → Bool
has_job rs r j = in_round (slice_get rs r) j

abbrev pub JobAsked : Issued → List JobSet → ℕ → ℕ → Result Bool Refusal → Type 0
JobAsked i sh r j (Ok a) = (i.book.rounds ≤ length sh) × (a ≡ has_job (rounds_of i.book.m i.book.rounds sh) r j)
JobAsked i sh r j (Err e) = (length sh < i.book.rounds) × (told e ≡ (9, 0))
