use Rattle.std.proofs.Common.{sym, ◌∙◌, arith}
use Rattle.std.proofs.lemmas.Bool.{and_parts, both_ways}
use Rattle.sets.proofs.FactLaws.{some_member}
use Rattle.layers.proofs.PairLaws.{entry_number_below}
use Rattle.reach.proofs.WriteLaws.{new_row, wrote_more, wrote_skip}
use Rattle.reach.proofs.write.write_new.Goals as goal
use Rattle.reach.proofs.write.write_new.Goals.{then-not-is_empty, else-not-is_empty}

pub write_row-requires : goal.write_row-requires
write_row-requires c q h =
    let new = new_row c.args.made.now c.args.reached.now c.loop-p.p c.row.result c.row-in-loop-p.result c.minus-new.result
    c.row.ensures c.row-in-loop-p.ensures c.minus-new.ensures in
    let low = c.requires.facts c.loop-p.p q (and_parts _ _ (sym (new q) ∙ h)).0 in
    omega (arith, entry_number_below c.loop-p.p q c.args.n (omega arith) low)

pub loop-p-preserved : goal.loop-p-preserved
loop-p-preserved c =
    let new = new_row c.args.made.now c.args.reached.now c.loop-p.p c.row.result c.row-in-loop-p.result c.minus-new.result
    c.row.ensures c.row-in-loop-p.ensures c.minus-new.ensures in
    elim c.if-not-is_empty.branch [
      | then-not-is_empty w ↦
          let (m, there) = some_member c.minus-new.result (λ off. both_ways _ w.if-not-is_empty.true (c.is_empty.ensures.1 off)) in
          rw (w.table-is, w.any-is)
          (wrote_more c.args.made.now c.args.reached.now c.loop-p.p c.args.v c.args.table.now c.loop-p.table c.loop-p.any
          c.loop-p.invariant c.minus-new.result new w.write_row.new.table m there (omega arith) w.write_row.ensures)
      | else-not-is_empty w ↦
          rw (w.table-is, w.any-is)
          (wrote_skip c.args.made.now c.args.reached.now c.loop-p.p c.args.v c.args.table.now c.loop-p.table c.loop-p.any
          c.loop-p.invariant c.minus-new.result new (c.is_empty.ensures.0 w.if-not-is_empty.false))
    ]
