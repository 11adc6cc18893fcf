use Rattle.std.proofs.Common.{sym, refl, ap, inl, inr, ◌∙◌}
use Rattle.std.proofs.lemmas.Result.{err_from_is_err_and}
use Rattle.files.specs.Records.{NJ, told}
use Rattle.files.specs.declared.record.Record.TheVariants.{Name}
use Rattle.files.proofs.RecordLaws.{not_found, found_due, found_body}
use Rattle.names.proofs.EntryLaws.{good_body, bad_bytes, split_body, tail_shown}
use Rattle.names.proofs.read.name_record_at.Goals as goal

pub returns-in_err-found : goal.returns-in_err-found
returns-in_err-found c =
    let p = err_from_is_err_and c.from_residual.result c.from_residual.ensures.1 in
    let (fault, at) = not_found c.args.file.now c.args.at NJ Name c.in_err-found.field-0.0 (λ b. refl) c.in_err-found.ensures in
    rw (p.1, p.2) (inl fault, at)

pub returns-then-not-all_printable : goal.returns-then-not-all_printable
returns-then-not-all_printable c =
    let is = ap told c.in-Name.is in
    let due = found_due c.args.file.now c.args.at c.in_ok-found.found c.in_ok-found.ensures NJ c.in-Name.body.now is in
    let body = found_body c.args.file.now c.args.at c.in_ok-found.found c.in_ok-found.ensures NJ c.in-Name.body.now is in
    let shown = tail_shown c.in-Name.body.now ∙ sym c.all_printable.ensures ∙ c.if-not-all_printable.true in
    let bad = bad_bytes c.in-Name.body.now shown in
    rw c.at-then-not-all_printable.ensures (inr (due, rw body at bad, refl), refl)

pub returns : goal.returns
returns c =
    let is = ap told c.in-Name.is in
    let due = found_due c.args.file.now c.args.at c.in_ok-found.found c.in_ok-found.ensures NJ c.in-Name.body.now is in
    let body = found_body c.args.file.now c.args.at c.in_ok-found.found c.in_ok-found.ensures NJ c.in-Name.body.now is in
    let shown = tail_shown c.in-Name.body.now ∙ sym c.all_printable.ensures ∙ c.if-not-all_printable.false in
    let good = good_body c.in-Name.body.now c.if-body-lt2.false c.if-body.false shown in
    let split = split_body c.in-Name.body.now c.if-body-lt2.false in
    (due, rw body at good, sym body ∙ split, c.in_ok-found.ensures.3)
