use Rattle.strips.specs.Loading.{loaded}
use Rattle.report.proofs.FilesLaws.{task_of, files_answered}
use Rattle.report.proofs.judge.judge_files.Goals as goal

pub returns : goal.returns
returns c =
    files_answered c.args.task_file.now c.args.plan_file.now (loaded c.in_ok-header.header c.load_task.new.rows)
    (task_of c.args.task_file.now c.load_task.new.rows c.load_task.result c.load_task.ensures c.map_err.result c.map_err.ensures.cases
    c.in_ok-header.header c.in_ok-header.was)
    c.judge_plan.result c.judge_plan.ensures c.map_err-2.result c.map_err-2.ensures.cases
