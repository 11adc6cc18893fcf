use Rattle.std.proofs.Common.{arith}
use Rattle.std.proofs.lemmas.Bool.{eq-eqb, eqb-true}
use Rattle.sets.proofs.FactLaws.{none_low, none_high, no_words}
use Rattle.sets.proofs.facts.FactSet.is_empty.Goals as goal

pub returns-then-self-eq0 : goal.returns-then-self-eq0
returns-then-self-eq0 c =
    (λ e f. no_words c.args.self f (omega arith) (eqb-true _ _ e), λ off. eq-eqb _ _ (none_high c.args.self (omega arith) off))

pub returns-else-self-eq0 : goal.returns-else-self-eq0
returns-else-self-eq0 c =
    (λ e. absurd (c.if-self-eq0.false (eqb-true _ _ e)), λ off. eq-eqb _ _ (none_low c.args.self (omega arith) off))
