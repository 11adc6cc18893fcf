use Rattle.std.proofs.Common.{ℕ, List, length, ◌++◌, drop, refl, ap, ◌∙◌, rules}
use Rattle.report.specs.Printed.{Printed}
use Rattle.boundary.specs.Texts.{written, no_room}
use Rattle.boundary.proofs.lekhnop_report.Goals.{then-bytes-text, else-bytes-text}
use Rattle.boundary.proofs.lekhnop_report.Goals as goal

pub returns : goal.returns
returns c =
    let bytes = c.as_bytes-bytes.result.now in
    let behind = λ (xs : List ℕ). xs ++ drop (length bytes) c.args.text.now in
    let printed : Printed c.args.task_file.now c.args.plan_file.now bytes = rw c.as_bytes-bytes.ensures.value c.in-Ok.ensures in
    elim c.if-bytes-text.branch [
      | then-bytes-text w ↦
          written bytes printed refl w.if-bytes-text.true (search rules) (w.text-is ∙ ap behind w.copy_from_slice.ensures.after)
      | else-bytes-text w ↦ no_room bytes printed refl w.if-bytes-text.false (search rules) w.text-is
    ]
