use Rattle.std.proofs.Common.{rules}
use Rattle.strips.specs.Rounds.{round_of}
use Rattle.verdicts.specs.Judging.{Partner}
use Rattle.verdicts.proofs.FaultLaws.{joined_finds}
use Rattle.verdicts.proofs.faults.JudgedRound.first_clash.Goals as goal

pub returns : goal.returns
returns g c =
    let T = g.S.Task.meaning c.args.self.now.task.now in
    joined_finds (Partner T (g.R.Rule.shares c.args.self.now.rule.now) (round_of T.m c.args.self.now.place.now))
    c.first_joined.ensures (λ j a o given. search rules)
