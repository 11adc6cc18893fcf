-- The theorem on lists of calls.
--
--   Bounds T R d            what is told of the distance bounds every plan: no plan has fewer rounds than the number
--                           told, or than the one after `at least`; and there is no plan where none is told
--   ToldAfter T R L g d     d is what is told after g growings, where L is the first layer that equals its
--                           next: the distance once a layer that was grown reaches the goal, else none
--                           once the book is settled, else at least g + 1
--   Decided d               d is a distance or none
--   ToldWell T R L g d      what holds of what is told of the distance after g growings
--   EntryAfter T R t p q e  e is the entry of {p, q} at layer t: its first layer if that is at most t, else
--                           65,535
--   JudgedWell              what holds of an answer of judging, after g growings, on the rounds rs
--   Worked T R L k cs w     what holds of a book with its table and its sheet of k places, after the calls cs, and of
--                           each answer of asking and of judging it
--   Alike T R w w'          what two lists of calls with equal numbers of growings have in common
--   Stories T R             what holds of every accepted opening of one task and every list of calls after
--                           it, under one rule
--   ListsOfCalls            so it is for every admitted task and every lawful rule
--   HoldsOfRuns             the same for one task, rule, book, table and sheet and one answer of judging, for
--                           all lists of calls that lead there
--   DistanceOfRuns T b tb r  what asking for the distance answers, for all lists of calls under a lawful rule that lead
--                           to this book and table: it isn't refused, and what is told is so under that rule
--   IssuedIfPlan T R rs r   what issuing answers of the rounds rs of a list of calls: they are a plan, and the book
--                           is issued; or they are no plan, and it is refused with 14
--   IssuedOfRuns            so it is for one task, rule, book, table and sheet and one answer of issuing, for all
--                           lists of calls that lead there
--   AskedOfRuns i sh r j a  what an issued book answers of job j in round r, for all lists of calls that lead to its
--                           book and this sheet: whether that round of the list has the job
--   PageOfRuns T N i sh mem r mem'   what printing it answers and writes, for all lists of calls that lead to its book and this
--                           sheet: the page of the rounds of the list
use Rattle.std.specs.Prelude.{◌≡◌, ℕ, suc, ◌<◌, ◌≤◌, min, Bool, true, ◌⊎◌, ◌↔◌, ⊤, List, length, Ok, Err, Result, slice_index}
use Rattle.sets.specs.declared.jobs.JobSet.{JobSet}
use Rattle.strips.specs.Tasks.{Meaning, Admitted}
use Rattle.strips.specs.Rules.{Says, Lawful}
use Rattle.strips.specs.Rounds.{Round, Plan}
use Rattle.verdicts.specs.Sheets.{rounds_of, VerdictOn}
use Rattle.layers.specs.Pairs.{pair_count}
use Rattle.layers.specs.Layers.{Layer, First, GoalAt, Distance as IsDistance}
use Rattle.layers.specs.Bounds.{Settles}
use Rattle.reach.specs.Tables.{Table, entry}
use Rattle.pages.specs.Names.{Names}
use Rattle.pages.specs.Pages.{page}
use Rattle.planning.specs.declared.book.Book.{Book}
use Rattle.planning.specs.declared.issued.Issued.{Issued}
use Rattle.planning.specs.declared.issued.NotIssued.{NotIssued}
use Rattle.planning.specs.declared.refusal.Refusal.{Refusal}
use Rattle.planning.specs.declared.report.Distance.{Distance}
use Rattle.planning.specs.declared.report.Report.{Report}
use Rattle.planning.specs.Refusals.{told}
use Rattle.planning.specs.Reports.{ToldAs, Excess, Shortest}
use Rattle.planning.specs.Calls.{Fits, Asked, Judging}
use Rattle.planning.specs.Issuing.{has_job}
use Rattle.planning.specs.Printing.{Written}
use Rattle.planning.specs.Runs.{World, Call, Story, growings, sheet_of}

abbrev pub Bounds : Meaning → Says → Distance → Type 0
Bounds T R d = ToldAs d
    (λ x. (rs : List Round) → Plan T R rs → x ≤ length rs)
    ((rs : List Round) → ¬ Plan T R rs)
    (λ k. (rs : List Round) → Plan T R rs → k ≤ length rs)

abbrev pub ToldAfter : Meaning → Says → ℕ → ℕ → Distance → Type 0
ToldAfter T R L g d = ToldAs d
    (λ x. IsDistance T R x × (x ≤ min g L))
    ((¬ GoalAt T R L) × (L < g))
    (λ k. (¬ GoalAt T R g) × (g ≤ L) × (k ≡ suc g))

abbrev pub Decided : Distance → Type 0
Decided d = ToldAs d (λ x. ⊤) ⊤ (λ k. ⊥)

abbrev pub EntryAfter : Meaning → Says → ℕ → ℕ → ℕ → ℕ → Type 0
EntryAfter T R t p q e = (First T R p q e × (e ≤ t)) ⊎ ((¬ Layer T R t p q) × (e ≡ 65535))

pub record ToldWell (T : Meaning) (R : Says) (L g : ℕ) (d : Distance) : Type 0 where
  pub bounds : Bounds T R d
  pub exact : ToldAfter T R L g d
  pub decided : pair_count T.n < g → Decided d

pub record JudgedWell (T : Meaning) (R : Says) (L g : ℕ) (rs : List Round) (rep : Report) : Type 0 where
  pub distance : ToldWell T R L g rep.distance
  pub rounds : rep.rounds ≡ length rs
  pub excess : Excess (length rs) rep.distance rep.excess
  pub verdict : VerdictOn T R rs rep.verdict
  pub shortest : Shortest rep → (others : List Round) → Plan T R others → length rs ≤ length others

pub record Worked (T : Meaning) (R : Says) (L k : ℕ) (cs : List Call) (w : World) : Type 0 where
  pub fits : Fits T w.book w.table
  pub layer : w.book.t ≡ min (growings cs) L
  pub settled : (w.book.settled ≡ true) ↔ (L < growings cs)
  pub entries : (p q : ℕ) → p < T.n → q < T.n → EntryAfter T R (min (growings cs) L) p q (entry w.table p q)
  pub places : length w.sheet ≡ k
  pub rounds : w.book.rounds ≡ length (sheet_of T.m k cs)
  pub sheet : rounds_of T.m w.book.rounds w.sheet ≡ sheet_of T.m k cs
  pub asked : (r : Result Distance Refusal) → Asked T w.book w.table r → (d : Distance) × (r ≡ Ok d) × ToldWell T R L (growings cs) d
  pub judged : (r : Result Report Refusal) → Judging T R w.book w.table w.sheet r
      → (rep : Report) × (r ≡ Ok rep) × JudgedWell T R L (growings cs) (sheet_of T.m k cs) rep

pub record Alike (T : Meaning) (R : Says) (w w' : World) : Type 0 where
  pub layer : w.book.t ≡ w'.book.t
  pub settled : w.book.settled ≡ w'.book.settled
  pub table : (i : ℕ) → i < pair_count T.n → slice_index w.table i ≡ slice_index w'.table i
  pub distance : (rep rep' : Report) → Judging T R w.book w.table w.sheet (Ok rep)
      → Judging T R w'.book w'.table w'.sheet (Ok rep') → rep.distance ≡ rep'.distance

pub record Stories (T : Meaning) (R : Says) : Type 0 where
  pub last_layer : ℕ
  pub settles : Settles T R last_layer
  pub worked : (σ : Story T R) → Worked T R last_layer (length σ.first.sheet) σ.calls σ.last
  pub alike : (σ τ : Story T R) → growings σ.calls ≡ growings τ.calls → Alike T R σ.last τ.last

abbrev pub ListsOfCalls : Type 0
ListsOfCalls = (T : Meaning) (R : Says) → Admitted T → Lawful R → Stories T R

pub record HoldsOfRuns (T : Meaning) (R : Says) (b : Book) (tb : Table) (sh : List JobSet) (r : Result Report Refusal) : Type 0 where
  pub stories : Stories T R
  pub answer : (σ : Story T R) → σ.last ≡ record { book = b; table = tb; sheet = sh }
      → (rep : Report) × (r ≡ Ok rep)
      × JudgedWell T R stories.last_layer (growings σ.calls) (sheet_of T.m (length σ.first.sheet) σ.calls) rep

abbrev pub DistanceOfRuns : Meaning → Book → Table → Result Distance Refusal → Type 0
DistanceOfRuns T b tb r =
    (R : Says) → Lawful R → (σ : Story T R) → σ.last.book ≡ b → σ.last.table ≡ tb
    → (L : ℕ) × Settles T R L × ((d : Distance) × (r ≡ Ok d) × ToldWell T R L (growings σ.calls) d)

abbrev pub IssuedIfPlan : Meaning → Says → List Round → Result Issued NotIssued → Type 0
IssuedIfPlan T R rs (Ok i) = Plan T R rs
IssuedIfPlan T R rs (Err e) = (¬ Plan T R rs) × (told e.refusal ≡ (14, 0))

abbrev pub IssuedOfRuns : Meaning → Says → Book → Table → List JobSet → Result Issued NotIssued → Type 0
IssuedOfRuns T R b tb sh r =
    (σ : Story T R) → σ.last ≡ record { book = b; table = tb; sheet = sh }
    → IssuedIfPlan T R (sheet_of T.m (length σ.first.sheet) σ.calls) r

abbrev pub AskedOfRuns : Issued → List JobSet → ℕ → ℕ → Result Bool Refusal → Type 0
AskedOfRuns i sh r j a =
    (T : Meaning) (R : Says) → Admitted T → Lawful R → (σ : Story T R) → σ.last.book ≡ i.book → σ.last.sheet ≡ sh
    → a ≡ Ok (has_job (sheet_of T.m (length σ.first.sheet) σ.calls) r j)

abbrev pub PageOfRuns : Meaning → Names → Issued → List JobSet → List ℕ → Result ℕ Refusal → List ℕ → Type 0
PageOfRuns T N i sh mem r mem' =
    (R : Says) → Lawful R → (σ : Story T R) → σ.last.book ≡ i.book → σ.last.sheet ≡ sh
    → Written (page T.m N (sheet_of T.m (length σ.first.sheet) σ.calls)) mem r mem'
