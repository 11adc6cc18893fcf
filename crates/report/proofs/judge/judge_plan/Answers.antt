use Rattle.report.proofs.PlanLaws.{plan_answered}
use Rattle.report.proofs.judge.judge_plan.Goals as goal

pub returns : goal.returns
returns g c =
    plan_answered (g.S.Task.meaning c.args.task.now) c.args.plan_file.now c.in_ok-book.book c.read_plan.new.table c.read_plan.new.sheet
    c.in_ok-book.ensures c.answer.result c.answer.ensures.answers
