use Rattle.std.proofs.Common.{◌≡◌, true, arith, rules}
use Rattle.planning.specs.Lists.{clean}
use Rattle.files.proofs.FactLists.{facts_listed, plain}
use Rattle.files.proofs.facts.fact_list.Goals as goal

pub returns : goal.returns
returns c =
    let sound : clean c.args.n c.args.list.now ≡ true = search rules in
    (sound, facts_listed c.args.n c.args.list.now c.of.result c.requires sound c.of.ensures, plain c.of.result (omega arith) (omega arith))
