use Rattle.files.proofs.BodyLaws.{row_read}
use Rattle.files.proofs.job.row.row_of.Goals as goal

pub returns : goal.returns
returns c =
    row_read c.args.n c.args.at c.args.body.now c.in_ok-parts.parts c.in_ok-needs.needs c.in_ok-adds.adds c.in_ok-deletes.deletes
    c.in_ok-parts.ensures c.in_ok-needs.ensures c.in_ok-adds.ensures c.in_ok-deletes.ensures
