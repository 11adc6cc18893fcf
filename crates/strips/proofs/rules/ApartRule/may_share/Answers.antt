use Rattle.std.proofs.Common.{◌≡◌, not, ap}
use Rattle.std.proofs.lemmas.Bool.Decides.{Decides-at, same_from_decides}
use Rattle.strips.specs.Jobs.{interferes}
use Rattle.strips.specs.Rules.{apart}
use Rattle.strips.specs.JobLaws.{decides_interferes, decides_apart}
use Rattle.strips.proofs.rules.ApartRule.may_share.Goals as goal

pub returns : goal.returns
returns c =
    let a = c.args.a.now in
    let b = c.args.b.now in
    let same : not c.interferes.result ≡ apart a b =
    ap not (same_from_decides c.interferes.result (interferes a b) c.interferes.ensures (decides_interferes a b)) in
    record { value = same; decides = Decides-at (not c.interferes.result) (apart a b) same (decides_apart a b) }
