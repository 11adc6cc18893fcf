use Rattle.std.proofs.Common.{[], ◌∷◌, ◌++◌, refl, ap, ◌∙◌, arith, add-one, length-set}
use Rattle.std.proofs.lemmas.List.{take_all}
use Rattle.std.proofs.lemmas.Result.{err_from_is_err_and}
use Rattle.pages.specs.Names.{place_of}
use Rattle.names.specs.NameFaults.{no_such_job, not_rising}
use Rattle.names.proofs.EntryLaws.{listable_body}
use Rattle.names.proofs.NameLaws.{none_passed, first_fault, passed_more, not_above, faulty_record, job_of_body}
use Rattle.names.proofs.PlaceLaws.{place_more}
use Rattle.names.proofs.read.read_all.Goals as goal

pub loop-at-init : goal.loop-at-init
loop-at-init c = ([], none_passed c.args.m c.args.file.now, c.requires.empty)

pub returns-in_err-found-clause-read : goal.returns-in_err-found-clause-read
returns-in_err-found-clause-read c =
    let p = err_from_is_err_and c.from_residual.result c.from_residual.ensures.1 in
    let (fault, at) = c.in_err-found.ensures in
    let (es, passed, held) = c.loop-at.invariant in
    rw (p.1, p.2)
    (first_fault passed _ c.in_err-found.field-0.0.place c.loop-at-test.true
    (faulty_record c.args.m c.args.file.now _ c.loop-at.at _ fault) at)

pub returns-then-found-m-clause-read : goal.returns-then-found-m-clause-read
returns-then-found-m-clause-read c =
    let (due, body, is, end) = c.in_ok-found.ensures in
    let (es, passed, held) = c.loop-at.invariant in
    let job = job_of_body c.args.file.now c.loop-at.at c.in_ok-found.found.job c.in_ok-found.found.name.now due is in
    rw c.at.ensures
    (first_fault passed 10 c.loop-at.at c.loop-at-test.true (no_such_job due body (rw job c.if-found-m.true) refl) refl)

pub returns-then-found-least-clause-read : goal.returns-then-found-least-clause-read
returns-then-found-least-clause-read c =
    let (due, body, is, end) = c.in_ok-found.ensures in
    let (es, passed, held) = c.loop-at.invariant in
    let job = job_of_body c.args.file.now c.loop-at.at c.in_ok-found.found.job c.in_ok-found.found.name.now due is in
    rw c.at-then-found-least.ensures
    (first_fault passed 6 c.loop-at.at c.loop-at-test.true
    (not_rising due body (rw job c.if-found-m.false)
    (not_above c.args.file.now _ c.loop-at.least _ passed.least_at (rw job c.if-found-least.true)) refl) refl)

pub loop-at-preserved : goal.loop-at-preserved
loop-at-preserved c =
    let (due, body, is, end) = c.in_ok-found.ensures in
    let (es, passed, held) = c.loop-at.invariant in
    let j = c.in_ok-found.found.job in
    let s = c.in_ok-found.found.name.now in
    let good = listable_body _ j s is body in
    let le = c.if-found-least.false in
    let lt = c.if-found-m.false in
    let more = passed_more passed j s due is good le lt in (
      es ++ ((j, s) ∷ []),
      rw (end, add-one) more,
      λ i li.
          let inside = rw length-set at li in
          let room = c.requires.room in
          place_more c.args.m es j s c.of.result c.loop-at.read i passed.fit (rw (← passed.least) le) (omega arith)
          (c.of.ensures ∙ ap place_of (take_all 16 s good.1.0)) inside (held i inside),
    )
