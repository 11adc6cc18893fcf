use Rattle.std.proofs.Common.{arith}
use Rattle.layers.proofs.PairLaws.{entry_number_below}
use Rattle.reach.proofs.EntryLaws.{entry_number_small}
use Rattle.reach.proofs.reading.Reading.entry.Goals as goal

pub offset_bounds-self-entry_number : goal.offset_bounds-self-entry_number
offset_bounds-self-entry_number c = omega (arith, entry_number_small)

pub bounds-self-entry_number : goal.bounds-self-entry_number
bounds-self-entry_number c = omega (arith, entry_number_below c.args.p c.args.q c.args.self.now.n)
