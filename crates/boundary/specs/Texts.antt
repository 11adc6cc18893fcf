-- What writing the text of two files answers and writes.
--
--   largest_size                  2⁶⁴ − 1, which tells that there is no memory for the text
--   TextWritten tf pf mem r mem'  r is what is answered for the task file tf and the sheet file pf, and the memory mem
--                                 becomes mem': the text stands at its front, if it has room there
use Rattle.std.specs.Prelude.{◌≡◌, ℕ, ◌<◌, ◌≤◌, List, ◌++◌, length, drop}
use Rattle.report.specs.Printed.{Printed}

abbrev pub largest_size : ℕ
largest_size = 0xffff_ffff_ffff_ffff

pub data TextWritten (tf pf mem : List ℕ) (r : ℕ) (mem' : List ℕ) : Type 0 where
  written : (text : List ℕ) → Printed tf pf text → r ≡ length text → r ≤ length mem → r < largest_size
      → mem' ≡ text ++ drop r mem → TextWritten tf pf mem r mem'
  no_room : (text : List ℕ) → Printed tf pf text → r ≡ length text → length mem < r → r < largest_size
      → mem' ≡ mem → TextWritten tf pf mem r mem'
  no_memory : r ≡ largest_size → mem' ≡ mem → TextWritten tf pf mem r mem'
