use Rattle.std.proofs.Common.{refl, rules}
use Rattle.sets.proofs.MemberSearch.{find_finds}
use Rattle.verdicts.proofs.FaultLaws.{finds_partner}
use Rattle.verdicts.proofs.faults.JudgedRound.first_partner.Goals as goal

pub returns : goal.returns
returns g c =
    finds_partner (g.S.Task.meaning c.args.self.now.task.now) c.between.ensures c.m.ensures
    (g.R.Rule.shares c.args.self.now.rule.now) c.args.first c.args.job.now refl _
    (find_finds _ c.find.ensures.runs (λ a r f' q. search rules) (λ k q. search rules) (λ k q none. search rules))
