use Rattle.std.proofs.Common.{Bool, ◌&&◌, ltb, sym, ap, ◌∙◌, arith}
use Rattle.sets.specs.Facts.{has}
use Rattle.sets.proofs.SearchLaws.{any_none, listed_all, listed_more}
use Rattle.sets.proofs.facts.FactSet.of.Goals as goal

pub loop-fact-init : goal.loop-fact-init
loop-fact-init c k = c.empty-set.ensures k ∙ sym (ap (λ (b : Bool). b && ltb k 128) (any_none _))

pub loop-fact-preserved : goal.loop-fact-preserved
loop-fact-preserved c k =
    listed_more c.args.facts.now c.loop-fact.fact-index k (has c.loop-fact.set k) (has c.insert-set.result k) (ltb k 128)
    (c.loop-fact.invariant k) (c.insert-set.ensures k)

pub returns : goal.returns
returns c k =
    c.loop-fact.invariant k
    ∙ ap (λ (b : Bool). b && ltb k 128) (listed_all c.args.facts.now c.loop-fact.fact-index k (omega arith))
