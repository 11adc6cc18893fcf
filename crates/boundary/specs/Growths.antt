-- Growing the table of a task a number of times.
--
--   GrownBy T R k tb t s tb'    k growings of a book that is opened over the table tb lead to the table tb' and to layer t,
--                               settled or not as s says. From story to ends: the calls, an accepted opening and growings
--                               alone, k of them, or fewer if the book is settled then. Behind: what stands behind the
--                               entries is kept. From last_layer to entries: what the theorem on lists of calls says of
--                               the layer, of settled and of each entry, by the first layer that equals its next
--   TimesGrown T R k tb r tb'   what growing that often answers and writes
use Rattle.std.specs.Prelude.{◌≡◌, ℕ, ◌<◌, ◌≤◌, min, Bool, true, ◌⊎◌, ◌↔◌, length, Ok, Err, Result}
use Rattle.strips.specs.Tasks.{Meaning}
use Rattle.strips.specs.Rules.{Says}
use Rattle.layers.specs.Pairs.{pair_count}
use Rattle.layers.specs.Bounds.{Settles}
use Rattle.reach.specs.Tables.{Table, KeptBehind, entry}
use Rattle.planning.specs.declared.book.Book.{Book}
use Rattle.planning.specs.declared.refusal.Refusal.{Refusal}
use Rattle.planning.specs.Refusals.{told}
use Rattle.planning.specs.Runs.{Story}
use Rattle.planning.specs.Main.{EntryAfter}
use Rattle.report.specs.Growing.{growths}

pub record GrownBy (T : Meaning) (R : Says) (k : ℕ) (tb : Table) (t : ℕ) (s : Bool) (tb' : Table) : Type 0 where
  pub story : Story T R
  pub times : ℕ
  pub opened_over : story.table ≡ tb
  pub growings_alone : story.calls ≡ growths times
  pub enough : (times ≡ k) ⊎ ((times ≤ k) × (s ≡ true))
  pub ends : (story.last.book.t ≡ t) × (story.last.book.settled ≡ s) × (story.last.table ≡ tb')
  pub behind : KeptBehind T.n tb tb'
  pub last_layer : ℕ
  pub settles : Settles T R last_layer
  pub layer : t ≡ min k last_layer
  pub settled : (s ≡ true) ↔ (last_layer < k)
  pub entries : (p q : ℕ) → p < T.n → q < T.n → EntryAfter T R t p q (entry tb' p q)

abbrev pub TimesGrown : Meaning → Says → ℕ → Table → Result Book Refusal → Table → Type 0
TimesGrown T R k tb (Ok b) tb' = GrownBy T R k tb b.t b.settled tb'
TimesGrown T R k tb (Err e) tb' = (length tb < pair_count T.n) × (told e ≡ (9, 0)) × (tb' ≡ tb)
