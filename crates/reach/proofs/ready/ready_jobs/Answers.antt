use Rattle.std.proofs.Common.{◌∙◌, None, refl, inl, inr, arith, length-set}
use Rattle.std.proofs.lemmas.List.{get_or-set_same, get_or-set_other}
use Rattle.std.proofs.lemmas.Bool.{cases_eq}
use Rattle.reach.proofs.ready.ready_jobs.Goals as goal

pub loop-j-init : goal.loop-j-init
loop-j-init g c = (refl, λ i lt. absurd (omega arith))

pub loop-j-preserved : goal.loop-j-preserved
loop-j-preserved g c =
    let (long, before) = c.loop-j.invariant in
    let rs = c.loop-j.ready in
    let k = c.loop-j.j in (
      length-set rs k c.ready_job.result ∙ long,
      λ i lt. elim (cases_eq i k) [
        | inl e ↦ rw (e, get_or-set_same rs k c.ready_job.result None (omega arith)) c.ready_job.ensures
        | inr ne ↦ rw (get_or-set_other rs k i c.ready_job.result None ne) (before i (omega arith))
      ],
    )

pub returns : goal.returns
returns g c =
    let (long, each) = c.loop-j.invariant in record {
      enough = omega arith;
      each = λ j lt. each j (omega arith);
    }
