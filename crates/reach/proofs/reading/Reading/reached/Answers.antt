use Rattle.std.proofs.Common.{◌≡◌, arith}
use Rattle.layers.specs.Pairs.{pair_count}
use Rattle.reach.proofs.PairSetLaws.{read_none, read_all, reached_turn}
use Rattle.reach.proofs.reading.Reading.reached.Goals as goal

pub loop-q-init : goal.loop-q-init
unfolding pair_count
loop-q-init c = read_none c.empty-reached.result c.args.self.now.t c.args.self.now.entries.now c.empty-reached.ensures

pub returns : goal.returns
returns c =
    let r = c.args.self.now in
    let whole : r.n ≡ c.loop-q.q = omega arith in
    let read = read_all c.loop-q.reached r.t r.entries.now r.n (rw whole c.loop-q.invariant) in
    record { read = read; symmetric = reached_turn r.n r.t r.entries.now c.loop-q.reached read }
