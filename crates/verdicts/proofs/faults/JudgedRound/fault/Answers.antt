use Rattle.std.proofs.Common.{refl}
use Rattle.sets.specs.Facts.{has}
use Rattle.strips.specs.Rounds.{round_of}
use Rattle.verdicts.specs.Judging.{closed, clash, missing}
use Rattle.verdicts.proofs.FaultLaws.{no_fault}
use Rattle.verdicts.proofs.faults.JudgedRound.fault.Goals as goal

pub returns-in-Some : goal.returns-in-Some
returns-in-Some g c = closed c.in-Some.job c.in-Some.ensures refl

pub returns-in-Some-first_clash : goal.returns-in-Some-first_clash
returns-in-Some-first_clash g c =
    let found = c.in-Some-first_clash.ensures in
    clash c.in-Some-first_clash.first c.in-Some-first_clash.second c.in_default.ensures found.0 found.1 refl

pub returns : goal.returns
returns g c =
    let found = c.in_ok-job.ensures in
    missing c.in_ok-job.job c.in_ok-job.fact c.in_default.ensures c.in_default-first_clash.ensures
    found.0 found.1 refl

pub returns-in_err-job : goal.returns-in_err-job
returns-in_err-job g c =
    let T = g.S.Task.meaning c.args.self.now.task.now in
    let R = g.R.Rule.shares c.args.self.now.rule.now in
    rw c.from_residual.ensures
    (no_fault T R (has c.args.state) (round_of T.m c.args.self.now.place.now) (g.met.R.Rule.symmetric c.args.self.now.rule.now)
    c.in_default.ensures c.in_default-first_clash.ensures c.in_err-job.ensures)
