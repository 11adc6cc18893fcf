use Rattle.std.proofs.Common.{◌≡◌, length, drop, rules}
use Rattle.std.proofs.lemmas.Result.{err_from_is_err_and}
use Rattle.files.proofs.TaskLaws.{job_is_first, whole_parsed}
use Rattle.files.proofs.load.parse.Goals as goal

pub returns-in_err-end-clause-parsed : goal.returns-in_err-end-clause-parsed
returns-in_err-end-clause-parsed c =
    let p = err_from_is_err_and c.from_residual-in_err-end.result c.from_residual-in_err-end.ensures.1 in
    let size : length c.read_jobs.new.rows ≡ c.in_ok-counts.counts.m = search rules in
    rw (p.1, p.2)
    (job_is_first c.args.file.now c.args.rows c.in_ok-counts.counts c.in_ok-counts.ensures c.read_jobs.new.rows c.in_err-end.field-0.0 size
    c.in_err-end.ensures.jobs)

pub returns-clause-parsed : goal.returns-clause-parsed
returns-clause-parsed c =
    let size : length c.read_jobs.new.rows ≡ c.in_ok-counts.counts.m = search rules in
    whole_parsed c.args.file.now c.args.rows c.in_ok-counts.counts c.in_ok-counts.ensures c.read_jobs.new.rows c.in_ok-end.end size
    c.in_ok-end.ensures.jobs (drop c.in_ok-counts.counts.m c.args.read.now) c.header_at.result c.header_at.ensures
