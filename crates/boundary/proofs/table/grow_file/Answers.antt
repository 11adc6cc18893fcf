use Rattle.std.proofs.Common.{refl, inl, inr}
use Rattle.std.proofs.lemmas.Result.{err_from_is_err_and}
use Rattle.strips.specs.Loading.{loaded}
use Rattle.report.proofs.LoadingLaws.{bytes_loaded}
use Rattle.boundary.proofs.table.grow_file.Goals as goal

pub returns : goal.returns
returns c = inr (loaded c.in_ok-header.header c.load.new.rows, bytes_loaded c.args.task_file.now _ c.in_ok-header.header c.load.new.rows c.in_ok-header.ensures.loaded, c.grow_times.ensures)

pub returns-in_err-header : goal.returns-in_err-header
returns-in_err-header c =
    let p = err_from_is_err_and c.from_residual.result c.from_residual.ensures.1 in
    rw (p.1, p.2) (inl (c.in_err-header.ensures.loaded.0, refl))
