use Rattle.std.proofs.Common.{◌/◌, ◌%◌, ◌^◌, get_or}
use lib.Bits.{and_mask}
use Rattle.sets.specs.Digits.{bit}
use Rattle.sets.specs.Jobs.{includes}
use Rattle.sets.proofs.jobs.JobSet.contains.Goals as goal

pub returns : goal.returns
unfolding bit includes
returns c = rw (and_mask (get_or c.args.self.now.words (c.args.job / 64) 0 / 2 ^ (c.args.job % 64)) 1)
