-- What the table of a task file is, on all inputs.
--
--   FileGrown tf l s k tb r tb'    what growing the table of the file's task answers and writes, under the layers l and
--                                  the rule s
--   TellsOf r g                    g tells the answer r
--   Still g                        g tells layer 0, and not settled
--   TableWritten tf pile ws fs rule k tb g tb'   what is told and written: the refusal of the file, or that of a short
--                                  table; else how far the table was grown
use Rattle.std.specs.Prelude.{◌≡◌, ℕ, ◌<◌, false, ◌⊎◌, List, length, Ok, Err, Result, IsErrAnd}
use Rattle.strips.specs.Tasks.{Meaning}
use Rattle.layers.specs.Pairs.{pair_count}
use Rattle.reach.specs.Tables.{Table}
use Rattle.planning.specs.declared.book.Book.{Book}
use Rattle.planning.specs.declared.refusal.Refusal.{Refusal}
use Rattle.planning.specs.Refusals.{told}
use Rattle.files.specs.TaskFaults.{FirstTaskFault}
use Rattle.report.specs.Files.{BytesOf}
use Rattle.boundary.specs.declared.pile.Layers.{Layers}
use Rattle.boundary.specs.declared.sharing.Sharing.{Sharing}
use Rattle.boundary.specs.declared.Grown.{Grown}
use Rattle.boundary.specs.Piles.{layered, TaskUnder, sharing_of, says_of}
use Rattle.boundary.specs.Growths.{GrownBy, TimesGrown}

abbrev pub FileGrown : List ℕ → Layers → Sharing → ℕ → Table → Result Book Refusal → Table → Type 0
FileGrown tf l s k tb r tb' =
    (IsErrAnd r (λ e. FirstTaskFault tf 255 (told e).0 (told e).1) × (tb' ≡ tb))
    ⊎ ((below : Meaning) × BytesOf tf below × TimesGrown (layered l below) (says_of s) k tb r tb')

abbrev pub TellsOf : Result Book Refusal → Grown → Type 0
TellsOf (Ok b) g = g ≡ record { number = 0; settled = b.settled; layer = b.t; place = 0 }
TellsOf (Err e) g = g ≡ record { number = (told e).0; settled = false; layer = 0; place = (told e).1 }

abbrev pub Still : Grown → Type 0
Still g = (g.settled ≡ false) × (g.layer ≡ 0)

pub data TableWritten (tf : List ℕ) (pile : ℕ) (ws fs : List ℕ) (rule k : ℕ) (tb : Table) (g : Grown) (tb' : Table) : Type 0 where
  refused : FirstTaskFault tf 255 g.number g.place → Still g → tb' ≡ tb → TableWritten tf pile ws fs rule k tb g tb'
  short : (T : Meaning) → TaskUnder tf pile ws fs T → length tb < pair_count T.n
      → g.number ≡ 9 → g.place ≡ 0 → Still g → tb' ≡ tb → TableWritten tf pile ws fs rule k tb g tb'
  grown : (T : Meaning) → TaskUnder tf pile ws fs T → g.number ≡ 0 → g.place ≡ 0
      → GrownBy T (says_of (sharing_of rule)) k tb g.layer g.settled tb' → TableWritten tf pile ws fs rule k tb g tb'
