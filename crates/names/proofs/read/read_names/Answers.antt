use Rattle.std.proofs.Common.{arith, [], ◌≤◌, length}
use Rattle.std.proofs.lemmas.Result.{err_from_is_err_and}
use Rattle.pages.specs.Names.{place_of}
use Rattle.names.specs.NameFaults.{faulty}
use Rattle.names.proofs.NameLaws.{refused_exactly}
use Rattle.names.proofs.PlaceLaws.{filled, holding}
use Rattle.names.proofs.read.read_names.Goals as goal

pub read_all-requires-clause-empty : goal.read_all-requires-clause-empty
read_all-requires-clause-empty g c = λ j lt. filled (place_of []) c.of-read.result c.of-read.ensures 255 j lt

pub returns-in_err-read_all-clause-exact : goal.returns-in_err-read_all-clause-exact
returns-in_err-read_all-clause-exact g c =
    let p = err_from_is_err_and c.from_residual.result c.from_residual.ensures.1 in
    let first = rw c.m-m.ensures at c.in_err-read_all.ensures.read in
    rw p.1
    (λ es fit le e.
    refused_exactly (g.S.Task.meaning c.args.task.now).m (length c.args.places.now) c.args.file.now _ _ (faulty le first) es fit le e)

pub returns-clause-read : goal.returns-clause-read
returns-clause-read g c =
    let (es, bytes, fit, held) = c.in_ok-read_all.ensures.read in
    let m = (g.S.Task.meaning c.args.task.now).m in
    let le : m ≤ length c.args.places.now = omega arith in
    let few : m ≤ 255 = (g.S.Task.admitted c.args.task.now).few_jobs in
    let fit' = rw c.m-m.ensures at fit in
    let new = rw c.m-m.ensures at c.copy_from_slice.ensures.after in
    (es, bytes, fit', le, rw c.m-m.ensures (holding m es c.read_all.new.read c.args.places.now c.copy_from_slice.new.self (omega arith) le fit' held new))
