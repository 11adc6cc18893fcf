use Rattle.report.proofs.LoadingLaws.{task_loaded}
use Rattle.report.proofs.judge.load_task.Goals as goal

pub returns : goal.returns
returns c = task_loaded c.args.file.now c.args.rows.now c.load.result c.load.new.rows c.in_ok-check_size.ensures c.requires c.load.ensures.loaded
