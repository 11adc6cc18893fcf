use Rattle.boundary.proofs.TableLaws.{table_written}
use Rattle.boundary.proofs.lekhnop_table.Goals as goal

pub returns : goal.returns
returns c =
    table_written c.args.task_file.now c.args.pile c.args.withheld.now c.args.start.now c.of-layers.result
    record { pile = c.of-layers.ensures.pile; marks = c.of-layers.ensures.marks; start = c.of-layers.ensures.start }
    c.args.rule c.args.growings c.args.table.now c.grow_file.new.table c.grow_file.result c.of-2.result
    (rw (← c.of.ensures) c.grow_file.ensures) c.of-2.ensures
