-- What a loaded task means.
--
--   within n s        the facts of the set s below n
--   job_of n r        the job of row r in a task of n facts: facts from n up don't count, and a fact
--                     both added and deleted counts as added
--   loaded h rows     the meaning of header h over these rows: one row a job, and neither rows from
--                     the header's m up nor numbers without a row are jobs
use Rattle.std.specs.Prelude.{ℕ, min, not, ◌&&◌, List, length, take, nat_lt}
use Rattle.std.specs.List.{slice_get}
use Rattle.std.specs.Option.{option_map}
use Rattle.sets.specs.declared.facts.FactSet.{FactSet}
use Rattle.sets.specs.Facts.{has, set_of}
use Rattle.strips.specs.declared.job.Job.{Job}
use Rattle.strips.specs.declared.row.Row.{Row}
use Rattle.strips.specs.declared.header.Header.{Header}
use Rattle.strips.specs.Tasks.{Meaning}

abbrev pub within : ℕ → FactSet → FactSet
within n s = set_of (λ f. nat_lt f n && has s f)

abbrev pub job_of : ℕ → Row → Job
job_of n r = record {
  zone = r.zone;
  needs = within n r.needs;
  adds = within n r.adds;
  deletes = set_of (λ f. nat_lt f n && (has r.deletes f && not (has r.adds f)));
}

abbrev pub loaded : Header → List Row → Meaning
loaded h rows = record {
  n = h.n;
  m = min h.m (length rows);
  start = h.start;
  goal = h.goal;
  job = λ j. option_map (job_of h.n) (slice_get (take h.m rows) j);
}
