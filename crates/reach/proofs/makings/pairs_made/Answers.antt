use Rattle.std.proofs.Common.{◌+◌, arith}
use Rattle.std.proofs.lemmas.List.{take_rest}
use Rattle.reach.proofs.MadeLaws.{made_more, made_all}
use Rattle.reach.proofs.makings.pairs_made.Goals as goal
use Rattle.reach.proofs.makings.pairs_made.Goals.{in-Some, in_default}

pub loop-j-preserved : goal.loop-j-preserved
loop-j-preserved g c =
    let R = g.R.Rule.shares c.args.rule.now in
    let rs = c.args.ready.now in
    elim c.match-own.branch [
      | in-Some w ↦
          rw w.made-is
          (made_more R c.singles-single.result rs c.loop-j.j c.loop-j.made w.join.new.self w.in-Some.own w.added_or_kept-beside.result
          w.with_others.result c.loop-j.invariant w.in-Some.is w.added_or_kept-beside.ensures
          (rw (take_rest rs (c.loop-j.j + 1)) at w.with_others.ensures) w.join.ensures)
      | in_default w ↦ rw w.made-is (λ p q. let before = c.loop-j.invariant p q in grind arith)
    ]

pub returns : goal.returns
returns g c = λ T ok ready low p q.
    made_all T (g.R.Rule.shares c.args.rule.now) ok c.args.reached.now c.args.ready.now ready c.requires low c.singles-single.result
    c.singles-single.ensures c.loop-j.j (omega arith) p q _ (c.loop-j.invariant p q)
