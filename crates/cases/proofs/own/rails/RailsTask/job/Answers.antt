use Rattle.std.proofs.Common.{◌≡◌, ◌+◌, ◌*◌, ◌<◌, true, false, ltb, sym, ◌∙◌, arith}
use Rattle.std.proofs.lemmas.Bool.{lt-ltb}
use Rattle.std.proofs.lemmas.Bool.Decides.{nat_tests}
use Rattle.cases.specs.Own.{at_end}
use Rattle.cases.proofs.RailSets.{is_one}
use Rattle.cases.proofs.own.rails.RailsTask.job.Goals as goal

pub returns : goal.returns
returns c =
    let k = c.args.self.now.places in
    let j = c.args.j in
    let few = c.args.self.now.few_facts in
    let more : at_end k j ≡ false = sym c.is_last.ensures ∙ c.if-is_last.false in
    let low : ltb j (2 * k) ≡ true = lt-ltb j (2 * k) (omega arith) in
    let below : j + 1 < 2 * k = grind (arith, nat_tests) in
    let here = is_one (2 * k) j c.single-here.result (omega arith) (omega arith) few (omega arith) c.single-here.ensures in
    let next = is_one (2 * k) (j + 1) c.single.result (omega arith) (omega arith) few below c.single.ensures in
    rw (low, more) cc
