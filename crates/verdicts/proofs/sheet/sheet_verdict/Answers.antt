use Rattle.std.proofs.lemmas.List.{length_push}
use Rattle.verdicts.proofs.SheetLaws.{next_place, all_passed, rest_more, fault_answered, end_answered}
use Rattle.verdicts.proofs.sheet.sheet_verdict.Goals as goal

pub returns-in-Some-fault : goal.returns-in-Some-fault
returns-in-Some-fault g c =
    fault_answered c.loop-round.invariant c.if-sheet-rounds.false
    (next_place c.if-sheet-rounds.false c.into_iter-round-iterator.ensures.into_iter_gives c.zip-round-items.ensures.first
    c.zip-round-items.ensures.second.0 c.loop-round.yielded c.loop-round.round-iterator c.next.new.self c.loop-round.yielded_by
    c.in-Some.is c.next.ensures.steps)
    (g.S.Task.admitted c.args.task.now)
    record { symmetric = g.met.R.Rule.symmetric c.args.rule.now; harmless = g.met.R.Rule.harmless c.args.rule.now }
    c.in-Some-fault.ensures

pub loop-round-preserved : goal.loop-round-preserved
loop-round-preserved g c =
    rest_more c.loop-round.invariant c.if-sheet-rounds.false
    (next_place c.if-sheet-rounds.false c.into_iter-round-iterator.ensures.into_iter_gives c.zip-round-items.ensures.first
    c.zip-round-items.ensures.second.0 c.loop-round.yielded c.loop-round.round-iterator c.next.new.self c.loop-round.yielded_by
    c.in-Some.is c.next.ensures.steps)
    (length_push c.loop-round.yielded (c.in-Some.round, c.in-Some.place)) c.in_default.ensures c.state_after-state.ensures

pub returns : goal.returns
returns g c =
    end_answered c.loop-round.invariant c.if-sheet-rounds.false (g.S.Task.admitted c.args.task.now)
    record { symmetric = g.met.R.Rule.symmetric c.args.rule.now; harmless = g.met.R.Rule.harmless c.args.rule.now }
    (all_passed c.if-sheet-rounds.false c.into_iter-round-iterator.ensures.into_iter_gives c.zip-round-items.ensures.first
    c.zip-round-items.ensures.second.0 c.loop-round.yielded c.loop-round.round-iterator c.next.new.self c.loop-round.yielded_by
    c.in-None.is c.next.ensures.steps)
    c.goal_verdict.ensures
