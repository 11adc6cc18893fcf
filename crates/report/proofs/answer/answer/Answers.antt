use Rattle.strips.specs.Rules.{apart}
use Rattle.strips.specs.JobLaws.{apart_lawful}
use Rattle.report.proofs.AnswerLaws.{answered, not_refused, grown_led, not_grown}
use Rattle.report.proofs.answer.answer.Goals as goal

pub returns-clause-answers : goal.returns-clause-answers
returns-clause-answers g c =
    answered (g.S.Task.meaning c.args.task.now) apart c.args.book.now c.args.table.now c.grow_until_decided.new.book c.grow_until_decided.new.table
    c.args.sheet.now c.in_ok-grow_until_decided.ensures c.judge.result c.judge.ensures.answer c.judge.ensures.runs

pub returns-clause-grown : goal.returns-clause-grown
returns-clause-grown g c =
    grown_led (g.S.Task.meaning c.args.task.now) apart c.args.book.now c.args.table.now c.grow_until_decided.new.book c.grow_until_decided.new.table
    c.args.sheet.now c.in_ok-grow_until_decided.ensures

pub returns-in_err-grow_until_decided-clause-answers : goal.returns-in_err-grow_until_decided-clause-answers
returns-in_err-grow_until_decided-clause-answers g c =
    not_refused (g.S.Task.meaning c.args.task.now) apart (g.S.Task.admitted c.args.task.now) apart_lawful c.args.book.now c.args.table.now c.args.sheet.now c.from_residual.result
    c.in_err-grow_until_decided.ensures.0

pub returns-in_err-grow_until_decided-clause-grown : goal.returns-in_err-grow_until_decided-clause-grown
returns-in_err-grow_until_decided-clause-grown g c =
    not_grown (g.S.Task.meaning c.args.task.now) apart c.args.book.now c.args.table.now c.args.sheet.now c.grow_until_decided.new.book
    c.grow_until_decided.new.table c.in_err-grow_until_decided.ensures.2 c.in_err-grow_until_decided.ensures.3
