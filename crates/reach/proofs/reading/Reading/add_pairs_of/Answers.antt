use Rattle.std.proofs.Common.{◌≡◌, ◌+◌, ◌≤◌, arith}
use Rattle.layers.specs.Pairs.{pair_count}
use Rattle.layers.proofs.PairLaws.{pair_count_more}
use Rattle.reach.proofs.PairSetLaws.{read_more, read_skip}
use Rattle.reach.proofs.reading.Reading.add_pairs_of.Goals as goal
use Rattle.reach.proofs.reading.Reading.add_pairs_of.Goals.{then-entry-self, else-entry-self}

pub loop-p-preserved : goal.loop-p-preserved
loop-p-preserved c =
    let r = c.args.self.now in
    let low : c.loop-p.p ≤ c.args.q = omega arith in
    let is = c.row-entry-items.ensures.entries c.loop-p.p low in
    elim c.if-entry-self.branch [
      | then-entry-self w ↦
          rw w.reached-is
          (read_more c.loop-p.reached r.t r.entries.now c.loop-p.p c.args.q low c.loop-p.invariant w.pair.new.self
          (rw is at w.if-entry-self.true) w.pair.ensures)
      | else-entry-self w ↦
          rw w.reached-is
          (read_skip c.loop-p.reached r.t r.entries.now c.loop-p.p c.args.q low c.loop-p.invariant (rw is at w.if-entry-self.false))
    ]

pub returns : goal.returns
returns c =
    let whole : pair_count (c.args.q + 1) ≡ pair_count c.args.q + c.loop-p.p = omega (arith, pair_count_more c.args.q) in
    rw whole c.loop-p.invariant
