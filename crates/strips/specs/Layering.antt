-- What a layer over a task means, by the meaning of the task below it.
--
--   withheld marks T     as T, but the marked job numbers are absent
--   moved s T            as T, but the start is the set s, without facts from n up
use Rattle.std.specs.Prelude.{None, if◌then◌else◌}
use Rattle.sets.specs.declared.facts.FactSet.{FactSet}
use Rattle.sets.specs.declared.jobs.JobSet.{JobSet}
use Rattle.sets.specs.Jobs.{includes}
use Rattle.strips.specs.Tasks.{Meaning}
use Rattle.strips.specs.Loading.{within}

abbrev pub withheld : JobSet → Meaning → Meaning
withheld marks T =
    record { n = T.n; m = T.m; start = T.start; goal = T.goal; job = λ j. if includes marks j then None else T.job j }

abbrev pub moved : FactSet → Meaning → Meaning
moved s T = record { n = T.n; m = T.m; start = within T.n s; goal = T.goal; job = T.job }
