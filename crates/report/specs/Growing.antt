-- Growing a table until a distance or none is told.
--
--   growths n                   a list of n growings and of no other calls
--   Decides T b tb              the book b tells a distance or none from the table tb
--   GrownOut T R b tb b' tb'    at most n(n+1)/2 + 1 growings lead from the book b and the table tb to b' and tb',
--                               whatever the sheet is, and then a distance or none is told
--   GrownToEnd T R b tb r b' tb'   what growing until then answers and writes, on all inputs
use Rattle.std.specs.Prelude.{◌≡◌, ℕ, ◌+◌, ◌≤◌, List, replicate, Ok, Err, Result}
use Rattle.sets.specs.declared.jobs.JobSet.{JobSet}
use Rattle.strips.specs.Tasks.{Meaning}
use Rattle.strips.specs.Rules.{Says}
use Rattle.layers.specs.Pairs.{pair_count}
use Rattle.reach.specs.Tables.{Table}
use Rattle.planning.specs.declared.book.Book.{Book}
use Rattle.planning.specs.declared.refusal.Refusal.{Refusal}
use Rattle.planning.specs.declared.report.Distance.{Distance}
use Rattle.planning.specs.Refusals.{told}
use Rattle.planning.specs.Calls.{Fits, ToldBy}
use Rattle.planning.specs.Runs.{Call, grow, Run}
use Rattle.planning.specs.Main.{Decided}

abbrev pub growths : ℕ → List Call
growths n = replicate n grow

abbrev pub Decides : Meaning → Book → Table → Type 0
Decides T b tb = (d : Distance) × ToldBy T b tb d × Decided d

pub record GrownOut (T : Meaning) (R : Says) (b : Book) (tb : Table) (b' : Book) (tb' : Table) : Type 0 where
  pub times : ℕ
  pub few : times ≤ pair_count T.n + 1
  pub run : (sh : List JobSet) → Run T R (record { book = b; table = tb; sheet = sh }) (growths times) (record { book = b'; table = tb'; sheet = sh })
  pub decides : Decides T b' tb'

abbrev pub GrownToEnd : Meaning → Says → Book → Table → Result Unit Refusal → Book → Table → Type 0
GrownToEnd T R b tb (Ok _) b' tb' = GrownOut T R b tb b' tb'
GrownToEnd T R b tb (Err e) b' tb' = (¬ Fits T b tb) × (told e ≡ (9, 0)) × (b' ≡ b) × (tb' ≡ tb)
