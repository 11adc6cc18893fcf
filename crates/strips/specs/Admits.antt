-- Why each implementation of a task is admitted. These are lemmas, for the ghost members that the tasks owe.
use Rattle.std.specs.Prelude.{◌≡◌, ℕ, ◌≤◌, Bool, true, false, cond, not, ◌&&◌, List, length, take, Some, None, Option, ◌≢◌, nat_lt, refl}
use Rattle.std.proofs.Common.{sym, ap, subst, inl, inr, length-take}
use Rattle.std.proofs.Math.Nat.{le_trans, min-le_left}
use Rattle.std.specs.List.{slice_get}
use Rattle.std.specs.Option.{option_map}
use Rattle.std.proofs.lemmas.Option.{slice_get_past, none-some, same_Some}
use Rattle.std.proofs.lemmas.Bool.{and_parts, ltb-true, both_ways, cases_Bool, not-true}
use Rattle.sets.specs.declared.facts.FactSet.{FactSet}
use Rattle.sets.specs.declared.jobs.JobSet.{JobSet}
use Rattle.sets.specs.Facts.{has, set_of}
use Rattle.sets.specs.Jobs.{includes}
use Rattle.sets.proofs.FactLaws.{in_set_of}
use Rattle.strips.specs.declared.job.Job.{Job}
use Rattle.strips.specs.declared.row.Row.{Row}
use Rattle.strips.specs.declared.header.Header.{Header}
use Rattle.strips.specs.Tasks.{Meaning, Below, Fair, Admitted}
use Rattle.strips.specs.Loading.{job_of, loaded}
use Rattle.strips.specs.Layering.{withheld, moved}

-- a set whose test asks for facts below n
below_by : (n : ℕ) (p : ℕ → Bool) → Below n (set_of (λ f. nat_lt f n && p f))
below_by n p f h = ltb-true f n (and_parts (nat_lt f n) (p f) (in_set_of (λ k. nat_lt k n && p k) f h)).0

fair_row : (n : ℕ) (r : Row) → Fair n (job_of n r)
fair_row n r = record {
  needs = below_by n (has r.needs);
  adds = below_by n (has r.adds);
  deletes = below_by n (λ f. has r.deletes f && not (has r.adds f));
  not_both = λ f h. elim (cases_Bool (has (job_of n r).deletes f)) [ inl d ↦ absurd (both f h d) | inr d ↦ d ];
}
  where
    both : (f : ℕ) → has (job_of n r).adds f ≡ true → has (job_of n r).deletes f ≢ true
    both f h d =
        let added = (and_parts (nat_lt f n) (has r.adds f) (in_set_of (λ k. nat_lt k n && has r.adds k) f h)).1 in
        let deleted = (and_parts (nat_lt f n) (has r.deletes f && not (has r.adds f)) (in_set_of (λ k. nat_lt k n && (has r.deletes k && not (has r.adds k))) f d)).1 in
        both_ways (has r.adds f) (not-true (has r.adds f) (and_parts (has r.deletes f) (not (has r.adds f)) deleted).1) added

fair_job : (n : ℕ) (o : Option Row) (a : Job) → option_map (job_of n) o ≡ Some a → Fair n a
fair_job n (Some r) a e = subst (λ (x : Job). Fair n x) (same_Some (job_of n r) a e) (fair_row n r)
fair_job n None a e = absurd (none-some a e)

pub loaded_admitted : (h : Header) (rows : List Row) → Admitted (loaded h rows)
loaded_admitted h rows = record {
  some_fact = h.limits.0;
  few_facts = h.limits.1;
  few_jobs = le_trans (min-le_left h.m (length rows)) h.limits.2;
  start = h.starts;
  goal = h.ends;
  fair = λ j a e. fair_job h.n (slice_get (take h.m rows) j) a e;
  absent = λ j le. ap (option_map (job_of h.n)) (slice_get_past (take h.m rows) j (subst (λ (k : ℕ). k ≤ j) (sym (length-take h.m rows)) le));
}

pub withheld_admitted : (marks : JobSet) (T : Meaning) → Admitted T → Admitted (withheld marks T)
withheld_admitted marks T ok = record {
  some_fact = ok.some_fact;
  few_facts = ok.few_facts;
  few_jobs = ok.few_jobs;
  start = ok.start;
  goal = ok.goal;
  fair = λ j a e. ok.fair j a (there (includes marks j) (T.job j) a e);
  absent = λ j le. gone (includes marks j) (T.job j) (ok.absent j le);
}
  where
    there : (b : Bool) (o : Option Job) (a : Job) → cond b None o ≡ Some a → o ≡ Some a
    there true o a e = absurd (none-some a e)
    there false o a e = e

    gone : (b : Bool) (o : Option Job) → o ≡ None → cond b None o ≡ None
    gone true o e = refl
    gone false o e = e

pub moved_admitted : (s : FactSet) (T : Meaning) → Admitted T → Admitted (moved s T)
moved_admitted s T ok = record {
  some_fact = ok.some_fact;
  few_facts = ok.few_facts;
  few_jobs = ok.few_jobs;
  start = below_by T.n (has s);
  goal = ok.goal;
  fair = ok.fair;
  absent = ok.absent;
}
