-- The bytes of a task.
--
--   job_body r              the body of the job record of row r: its zone, the lengths of its three lists of
--                           facts, and the lists
--   job_bytes r             that record
--   task_bytes n rows s g   the bytes of a task of n facts with these rows, start and goal
--   RowLimits n r           the facts of row r are below n, and its sets are nothing but their facts; one fact may be
--                           both added and deleted
--   TaskFile h rows file    the file is the bytes of the header h and these rows, which are within the limits
--   SameTask h rows h' rows'   two headers are one, and so are their rows
--   Bytes xs                every number of the list is a byte
--   InBytes r               the zone of row r is a byte, and so is the length of its body
--   TasksWithFiles          the numbers that stand for a header and rows within the limits are all bytes exactly if
--                           the zones of the rows and the lengths of their bodies are
--
-- So a header and rows with a body of more than 255 bytes have no file: the length that task_bytes gives that body
-- is no byte.
use Rattle.std.specs.Prelude.{◌≡◌, ℕ, ◌<◌, ◌↔◌, List, [], ◌∷◌, ◌++◌, length}
use Rattle.std.specs.List.{AllByRecursion, flat_map}
use Rattle.sets.specs.declared.facts.FactSet.{FactSet}
use Rattle.strips.specs.declared.row.Row.{Row}
use Rattle.strips.specs.declared.header.Header.{Header}
use Rattle.strips.specs.Tasks.{Below}
use Rattle.files.specs.Records.{TK, AC, ST, GO, record_bytes}
use Rattle.files.specs.Sets.{facts_of, Plain}

abbrev pub job_body : Row → List ℕ
job_body r =
    let needs : List ℕ = facts_of r.needs in
    let adds : List ℕ = facts_of r.adds in
    let deletes : List ℕ = facts_of r.deletes in
    r.zone ∷ (length needs ∷ (length adds ∷ (length deletes ∷ (needs ++ (adds ++ deletes)))))

abbrev pub job_bytes : Row → List ℕ
job_bytes r = record_bytes AC (job_body r)

abbrev pub task_bytes : ℕ → List Row → FactSet → FactSet → List ℕ
task_bytes n rows s g =
    record_bytes TK (n ∷ (length rows ∷ [])) ++ (flat_map job_bytes rows ++ (record_bytes ST (facts_of s) ++ record_bytes GO (facts_of g)))

pub record RowLimits (n : ℕ) (r : Row) : Type 0 where
  pub needs : Below n r.needs
  pub adds : Below n r.adds
  pub deletes : Below n r.deletes
  pub plain : Plain r.needs × Plain r.adds × Plain r.deletes

pub record TaskFile (h : Header) (rows : List Row) (file : List ℕ) : Type 0 where
  pub jobs : length rows ≡ h.m
  pub limits : AllByRecursion (RowLimits h.n) rows
  pub plain : Plain h.start × Plain h.goal
  pub bytes : file ≡ task_bytes h.n rows h.start h.goal

pub record SameTask (h : Header) (rows : List Row) (h' : Header) (rows' : List Row) : Type 0 where
  pub n_is : h.n ≡ h'.n
  pub m_is : h.m ≡ h'.m
  pub start_is : h.start ≡ h'.start
  pub goal_is : h.goal ≡ h'.goal
  pub rows_are : rows ≡ rows'

abbrev pub Bytes : List ℕ → Type 0
Bytes xs = AllByRecursion (λ b. b < 256) xs

abbrev pub InBytes : Row → Type 0
InBytes r = (r.zone < 256) × (length (job_body r) < 256)

abbrev pub TasksWithFiles : Type 0
TasksWithFiles = (h : Header) (rows : List Row) (bytes : List ℕ) → TaskFile h rows bytes → (Bytes bytes ↔ AllByRecursion InBytes rows)
