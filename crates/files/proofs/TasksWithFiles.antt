-- Which tasks have a file: those whose jobs' bodies fit a length byte.
use Rattle.std.proofs.Common.{◌≡◌, ℕ, suc, ◌<◌, true, List, [], ◌∷◌, ◌++◌, length, sym, subst, arith, lit<}
use Rattle.std.specs.List.{AllByRecursion, flat_map}
use Rattle.sets.specs.declared.facts.FactSet.{FactSet}
use Rattle.sets.specs.Facts.{has}
use Rattle.sets.proofs.FactLaws.{has_below}
use Rattle.strips.specs.declared.row.Row.{Row}
use Rattle.strips.specs.declared.header.Header.{Header}
use Rattle.files.specs.Records.{Mark, TK, ST, GO, record_bytes}
use Rattle.files.specs.Sets.{facts_of}
use Rattle.files.specs.TaskFiles.{job_bytes, Bytes, InBytes, TasksWithFiles}
use Rattle.files.proofs.FactLists.{Climbs, rising_climbs, rising_length}

-- bytes and bytes are bytes, and so are parts of them
bytes_both : (xs ys : List ℕ) → Bytes xs → Bytes ys → Bytes (xs ++ ys)
bytes_both [] ys all more = more
bytes_both (x ∷ xs) ys (here, all) more = (here, bytes_both xs ys all more)

bytes_parts : (xs ys : List ℕ) → Bytes (xs ++ ys) → Bytes xs × Bytes ys
bytes_parts [] ys all = (tt, all)
bytes_parts (x ∷ xs) ys (here, all) = let (left, right) = bytes_parts xs ys all in ((here, left), right)

-- the facts of a set are bytes, and so is how many they are
climbs_bytes : (s : FactSet) (k : ℕ) (xs : List ℕ) → Climbs (λ f. has s f ≡ true) k xs → Bytes xs
climbs_bytes s k [] c = tt
climbs_bytes s k (x ∷ xs) (_, there, rest) = (let b = has_below s x there in omega arith, climbs_bytes s (suc x) xs rest)

fact_bytes : (s : FactSet) → Bytes (facts_of s)
fact_bytes s = climbs_bytes s 0 (facts_of s) (rising_climbs (has s) 0 128)

few_facts : (s : FactSet) → length (facts_of s) < 256
few_facts s = let l = rising_length (has s) 0 128 in omega arith

fact_record_bytes : (k : Mark) (s : FactSet) → k.0 < 256 → k.1 < 256 → Bytes (record_bytes k (facts_of s))
fact_record_bytes k s a b = (a, (b, (few_facts s, fact_bytes s)))

-- the job records
job_in_bytes : (r : Row) → InBytes r → Bytes (job_bytes r)
job_in_bytes r (zone, size) =
    let lists : Bytes (facts_of r.needs ++ (facts_of r.adds ++ facts_of r.deletes)) =
    bytes_both (facts_of r.needs) _ (fact_bytes r.needs) (bytes_both (facts_of r.adds) _ (fact_bytes r.adds) (fact_bytes r.deletes)) in
    (lit< tt, (lit< tt, (size, (zone, (few_facts r.needs, (few_facts r.adds, (few_facts r.deletes, lists)))))))

jobs_in_bytes : (rows : List Row) → AllByRecursion InBytes rows → Bytes (flat_map job_bytes rows)
jobs_in_bytes [] all = tt
jobs_in_bytes (r ∷ rs) (here, all) = bytes_both (job_bytes r) (flat_map job_bytes rs) (job_in_bytes r here) (jobs_in_bytes rs all)

bytes_of_jobs : (rows : List Row) → Bytes (flat_map job_bytes rows) → AllByRecursion InBytes rows
bytes_of_jobs [] all = tt
bytes_of_jobs (r ∷ rs) all =
    let ((_, (_, (size, (zone, _)))), rest) = bytes_parts (job_bytes r) (flat_map job_bytes rs) all in ((zone, size), bytes_of_jobs rs rest)

-- what stands before the job records, and what behind
abbrev front : Header → List Row → List ℕ
front h rows = record_bytes TK (h.n ∷ (length rows ∷ []))

abbrev ends : Header → List ℕ
ends h = record_bytes ST (facts_of h.start) ++ record_bytes GO (facts_of h.goal)

pub tasks_with_files : TasksWithFiles
tasks_with_files h rows bytes t = (there, back)
  where
    there : Bytes bytes → AllByRecursion InBytes rows
    there all =
        let (_, rest) = bytes_parts (front h rows) (flat_map job_bytes rows ++ ends h) (subst Bytes t.bytes all) in
        bytes_of_jobs rows (bytes_parts (flat_map job_bytes rows) (ends h) rest).0

    counts : Bytes (front h rows)
    counts =
        let few : h.n < 256 = (let n = h.limits.1 in omega arith) in
        let jobs : length rows < 256 = (let m = h.limits.2 in omega (arith, t.jobs)) in
        (lit< tt, (lit< tt, (lit< tt, (few, (jobs, tt)))))

    back : AllByRecursion InBytes rows → Bytes bytes
    back all =
        subst Bytes (sym t.bytes)
        (bytes_both (front h rows) (flat_map job_bytes rows ++ ends h) counts
        (bytes_both (flat_map job_bytes rows) (ends h) (jobs_in_bytes rows all)
        (bytes_both (record_bytes ST (facts_of h.start)) (record_bytes GO (facts_of h.goal))
        (fact_record_bytes ST h.start (lit< tt) (lit< tt)) (fact_record_bytes GO h.goal (lit< tt) (lit< tt)))))
