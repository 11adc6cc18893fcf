use Rattle.std.proofs.Common.{◌≡◌, ℕ, ◌<◌, true, sym, ap, ◌∙◌, arith}
use Rattle.std.proofs.lemmas.Grind.{common_steps}
use Rattle.sets.specs.declared.facts.FactSet.{FactSet}
use Rattle.sets.specs.Facts.{has}
use Rattle.layers.proofs.PairLaws.{entry_number_below}
use Rattle.reach.specs.Tables.{Room}
use Rattle.reach.proofs.OpenLaws.{opened_all}
use Rattle.reach.proofs.open.open_table.Goals as goal

pub write_row-requires : goal.write_row-requires
write_row-requires g c q there =
    let T = g.S.Task.meaning c.args.task.now in
    let low : (f : ℕ) → has c.start-start.result f ≡ true → f < T.n =
    λ f h. (g.S.Task.admitted c.args.task.now).start f (sym (ap (λ (x : FactSet). has x f) c.start-start.ensures) ∙ h) in
    let below = entry_number_below c.in-Some.p q T.n (low c.in-Some.p (c.loop-p.invariant.begun c.in-Some.p c.in-Some.ensures.steps.0.0))
    (low q there) in
    let room : Room T.n c.args.table.now = rw c.n-n.ensures at c.in_ok-check_room.ensures in
    omega arith

pub returns : goal.returns
returns g c =
    let T = g.S.Task.meaning c.args.task.now in
    let room : Room T.n c.args.table.now = rw c.n-n.ensures at c.in_ok-check_room.ensures in (
      room,
      opened_all T c.args.table.now c.loop-p.table c.loop-p.p-iterator c.next.new.self (g.S.Task.admitted c.args.task.now)
          (rw (c.n-n.ensures, c.start-start.ensures) at c.loop-p.invariant)
          c.in-None.ensures.steps (grind (arith, common_steps)),
    )
