use Rattle.std.proofs.Common.{inl, inr, arith}
use Rattle.std.proofs.lemmas.Bool.{cases_lt, both_ways}
use Rattle.sets.proofs.JobLaws.{word_none, word_next, past_words}
use Rattle.sets.proofs.jobs.JobSet.next.Goals as goal
use Rattle.sets.proofs.jobs.JobSet.next.Goals.{then-skip-lt64+else-rest-ne0, else-skip-lt64}

pub overflow_cast-result-then-rest-ne0-2 : goal.overflow_cast-result-then-rest-ne0-2
overflow_cast-result-then-rest-ne0-2 c =
    let f = word_next c.args.self.now c.args.from c.loop-w.w c.saturating_sub-skip.result c.saturating_sub-skip.ensures c.if-skip-lt64.true
    c.loop-w-test.true (omega arith) c.loop-w.invariant c.if-rest-ne0.true in
    omega (arith, f.0)

pub returns-then-rest-ne0 : goal.returns-then-rest-ne0
returns-then-rest-ne0 c =
    (word_next c.args.self.now c.args.from c.loop-w.w c.saturating_sub-skip.result c.saturating_sub-skip.ensures c.if-skip-lt64.true
    c.loop-w-test.true (omega arith) c.loop-w.invariant c.if-rest-ne0.true).1

pub loop-w-preserved : goal.loop-w-preserved
loop-w-preserved c =
    elim c.if-skip-lt64.branch [
      | then-skip-lt64+else-rest-ne0 w ↦
          word_none c.args.self.now c.args.from c.loop-w.w c.saturating_sub-skip.result c.saturating_sub-skip.ensures w.if-skip-lt64.true
          c.loop-w-test.true (omega arith) c.loop-w.invariant w.if-rest-ne0.false
      | else-skip-lt64 w ↦ λ j h l. c.loop-w.invariant j h (let is = c.saturating_sub-skip.ensures in let past = w.if-skip-lt64.false in omega arith)
    ]

pub returns : goal.returns
returns c j (h, there) =
    elim (cases_lt j 256) [
      | inl l ↦ both_ways _ (c.loop-w.invariant j h (omega arith)) there
      | inr l ↦ both_ways _ (past_words c.args.self.now j (omega arith) l) there
    ]
