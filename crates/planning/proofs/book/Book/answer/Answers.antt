use Rattle.planning.proofs.DistanceLaws.{told_by}
use Rattle.planning.proofs.book.Book.answer.Goals as goal

pub returns : goal.returns
returns g c = (
  c.in_ok-check_fit.ensures,
  told_by (g.S.Task.meaning c.args.task.now) c.args.self.now c.args.table.now c.in_ok-layer.layer c.told.result c.in_ok-layer.ensures
      c.told.ensures,
)
