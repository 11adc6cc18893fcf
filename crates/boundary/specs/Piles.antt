-- The task and the rule that numbers and lists stand for.
--
--   pile_of k                the pile of number k
--   piled p marks s T        the task T under the layers of the pile p: the marked jobs are withheld, the start is moved
--                            to the set s
--   layered l T              the task T under the layers l
--   IsLayers k ws fs l       l is the pile of number k, with the jobs of the list ws withheld and the start moved to the
--                            facts of the list fs
--   TaskUnder tf k ws fs T   T is the task that the file tf is the bytes of, under these layers
--   sharing_of k             the rule of number k
--   says_of s                what the rule s says
use Rattle.std.specs.Prelude.{◌≡◌, ℕ, if◌then◌else◌, ◌==◌, ◌&&◌, List, nat_lt}
use Rattle.sets.specs.declared.facts.FactSet.{FactSet}
use Rattle.sets.specs.declared.jobs.JobSet.{JobSet}
use Rattle.sets.specs.Facts.{has}
use Rattle.sets.specs.Jobs.{includes}
use Rattle.sets.specs.Search.{listed}
use Rattle.strips.specs.Tasks.{Meaning}
use Rattle.strips.specs.Layering.{withheld, moved}
use Rattle.strips.specs.Rules.{Says, apart, single_file, zoned}
use Rattle.report.specs.Files.{BytesOf}
use Rattle.boundary.specs.declared.pile.Pile.{Pile}
use Rattle.boundary.specs.declared.pile.Pile.TheVariants.{Bare, Withheld, MovedStart, WithheldOverMovedStart, MovedStartOverWithheld}
use Rattle.boundary.specs.declared.pile.Layers.{Layers}
use Rattle.boundary.specs.declared.sharing.Sharing.{Sharing}
use Rattle.boundary.specs.declared.sharing.Sharing.TheVariants.{Apart, SingleFile, Zoned}

abbrev pub pile_of : ℕ → Pile
pile_of k =
    if k == 0 then Bare
    else (if k == 1 then Withheld
    else (if k == 2 then MovedStart
    else (if k == 3 then WithheldOverMovedStart
    else MovedStartOverWithheld)))

abbrev pub piled : Pile → JobSet → FactSet → Meaning → Meaning
piled Bare marks s T = T
piled Withheld marks s T = withheld marks T
piled MovedStart marks s T = moved s T
piled WithheldOverMovedStart marks s T = withheld marks (moved s T)
piled MovedStartOverWithheld marks s T = moved s (withheld marks T)

abbrev pub layered : Layers → Meaning → Meaning
layered l T = piled l.pile l.marks l.start T

pub record IsLayers (k : ℕ) (ws fs : List ℕ) (l : Layers) : Type 0 where
  pub pile : l.pile ≡ pile_of k
  pub marks : (j : ℕ) → includes l.marks j ≡ listed ws j
  pub start : (f : ℕ) → has l.start f ≡ (listed fs f && nat_lt f 128)

abbrev pub TaskUnder : List ℕ → ℕ → List ℕ → List ℕ → Meaning → Type 0
TaskUnder tf k ws fs T =
    (l : Layers) × IsLayers k ws fs l × ((below : Meaning) × BytesOf tf below × (T ≡ layered l below))

abbrev pub sharing_of : ℕ → Sharing
sharing_of k = if k == 0 then Apart else (if k == 1 then SingleFile else Zoned)

abbrev pub says_of : Sharing → Says
says_of Apart = apart
says_of SingleFile = single_file
says_of Zoned = zoned
