use Rattle.std.proofs.Common.{Some, ap, arith, inl, inr, refl}
use Rattle.std.proofs.lemmas.Int.{ints}
use Rattle.planning.specs.Reports.{number, none, at_least}
use Rattle.planning.proofs.report.Distance.excess.Goals as goal

pub returns-in-Told : goal.returns-in-Told
returns-in-Told c = number c.in-Told.distance (rw c.in-Told.is refl) (ap Some (omega (arith, ints)))

pub returns-in-NoPlan : goal.returns-in-NoPlan
returns-in-NoPlan c =
    elim c.in-NoPlan.is [
      | inl is ↦ none (rw is refl) refl
      | inr (k, is) ↦ at_least k (rw is refl) refl
    ]
