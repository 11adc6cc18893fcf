use Rattle.std.proofs.Common.{◌+◌, arith}
use Rattle.std.proofs.lemmas.Grind.{common_steps}
use Rattle.layers.proofs.PairLaws.{pair_count_more, pair_count_le, entry_number_up}
use Rattle.reach.proofs.EntryLaws.{pair_count_small}
use Rattle.reach.proofs.reading.Reading.row.Goals as goal

pub offset_bounds-self-pair_count : goal.offset_bounds-self-pair_count
offset_bounds-self-pair_count c = omega (arith, pair_count_small)

pub slice_bounds-result-count : goal.slice_bounds-result-count
slice_bounds-result-count c = omega (arith, pair_count_more c.args.q)

pub slice_bounds-result-start : goal.slice_bounds-result-start
slice_bounds-result-start c = omega (arith, pair_count_more c.args.q)

pub slice_bounds-result-end : goal.slice_bounds-result-end
slice_bounds-result-end c = omega (arith, pair_count_le (c.args.q + 1) c.args.self.now.n)

pub returns-clause-entries : goal.returns-clause-entries
returns-clause-entries c p low = let up = entry_number_up p c.args.q low in grind (arith, common_steps, pair_count_more c.args.q)

pub returns-clause-facts : goal.returns-clause-facts
returns-clause-facts c = grind (arith, common_steps, pair_count_more c.args.q, pair_count_le (c.args.q + 1) c.args.self.now.n)
