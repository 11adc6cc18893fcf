use Rattle.planning.proofs.ListsOfCalls.{distance_of_runs}
use Rattle.planning.proofs.book.Book.distance.Goals as goal

pub returns : goal.returns
returns g c = record {
  answer = c.answer.ensures;
  runs =
      distance_of_runs (g.S.Task.meaning c.args.task.now) (g.S.Task.admitted c.args.task.now)
      c.args.self.now c.args.table.now c.answer.result c.answer.ensures;
}
