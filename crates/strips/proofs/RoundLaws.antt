-- What the jobs of a round add and delete, gathered one job after the other.
use Rattle.std.proofs.Common.{◌≡◌, ℕ, ◌+◌, ◌≤◌, Bool, false, not, ◌&&◌, ◌||◌, ltb, Some, None, Option, sym, refl, ap, ◌∙◌, ap₂, inl, inr, arith}
use mathlib.Core.Path.{fun_ext}
use mathlib.Core.Bool.{or_comm, or-false}
use Rattle.std.proofs.lemmas.Bool.{and_left, cases_Bool, le-ltb}
use Rattle.sets.specs.declared.facts.FactSet.{FactSet}
use Rattle.sets.specs.declared.jobs.JobSet.{JobSet}
use Rattle.sets.specs.declared.members.Members.{Members}
use Rattle.sets.specs.Facts.{has}
use Rattle.sets.specs.Members.{Ahead, Rises}
use Rattle.sets.specs.Search.{any, Lowest}
use Rattle.sets.proofs.SearchLaws.{any_level, any_more}
use Rattle.strips.specs.declared.job.Job.{Job}
use Rattle.strips.specs.Tasks.{Meaning}
use Rattle.strips.specs.Rounds.{round_of, in_part, some_job, result}
use Rattle.strips.proofs.MemberLaws.{ahead, in_round}

-- some present job of the round, numbered below `from`, has the fact in that part
abbrev pub gathered : Meaning → (Job → FactSet) → JobSet → ℕ → ℕ → Bool
gathered T part place from f = any from (λ j. round_of T.m place j && in_part part (T.job j) f)

module _ (T : Meaning) (part : Job → FactSet) (place : JobSet) (s : Members) (set_is : s.set ≡ place) (end_is : s.end ≡ T.m) where
  -- a number that is not ahead, from the one reached up, gathers nothing
  not_ahead : (j f : ℕ) → s.from ≤ j → (Ahead s j → ⊥) → (round_of T.m place j && in_part part (T.job j) f) ≡ false
  not_ahead j f le off =
      elim (cases_Bool (round_of T.m place j)) [
        | inl e ↦ absurd (off (ahead T.m place s set_is end_is j le e))
        | inr e ↦ and_left (round_of T.m place j) _ e
      ]

  pub gathered_more : (j f : ℕ) → Lowest (Ahead s) j → gathered T part place (j + 1) f ≡ (in_part part (T.job j) f || gathered T part place s.from f)
  gathered_more j f (here, first) =
      any_more j _
      ∙ ap₂ ◌||◌ (ap (λ (b : Bool). b && in_part part (T.job j) f) (in_round T.m place s set_is end_is j here))
      (any_level j s.from _ (λ k a b. let le = here.0 in absurd (omega arith)) (λ k a b. not_ahead k f a (first k b)))

  pub gathered_all : (f : ℕ) → ((j : ℕ) → Ahead s j → ⊥) → gathered T part place s.from f ≡ some_job T part (round_of T.m place) f
  unfolding some_job
  gathered_all f off =
      any_level s.from T.m _ (λ k a b. not_ahead k f a (off k))
      (λ k a b. and_left (round_of T.m place k) _ (and_left (ltb k T.m) _ (le-ltb k T.m a)))

pub gathered_none : (T : Meaning) (part : Job → FactSet) (place : JobSet) (f : ℕ) → gathered T part place 0 f ≡ false
unfolding any
gathered_none T part place f = refl

-- how far a walk over the members of a place has come: what the jobs behind it add and delete
pub record Gathering (T : Meaning) (place : JobSet) (s : Members) (adds deletes : FactSet) : Type 0 where
  pub set_is : s.set ≡ place
  pub end_is : s.end ≡ T.m
  pub adds_are : (f : ℕ) → has adds f ≡ gathered T (λ a. a.adds) place s.from f
  pub deletes_are : (f : ℕ) → has deletes f ≡ gathered T (λ a. a.deletes) place s.from f

module _ (T : Meaning) (place : JobSet) where
  pub gathering_none : (s : Members) (m : ℕ) (adds deletes : FactSet) → s ≡ record { set = place; from = 0; end = m } → m ≡ T.m
      → ((f : ℕ) → has adds f ≡ false) → ((f : ℕ) → has deletes f ≡ false) → Gathering T place s adds deletes
  gathering_none s m adds deletes is m_is no-adds no-deletes =
      let at : s.from ≡ 0 = ap (λ (x : Members). x.from) is in
      record {
        set_is = ap (λ (x : Members). x.set) is;
        end_is = ap (λ (x : Members). x.end) is ∙ m_is;
        adds_are = λ f. no-adds f ∙ sym (ap (λ (i : ℕ). gathered T (λ a. a.adds) place i f) at ∙ gathered_none T (λ a. a.adds) place f);
        deletes_are = λ f. no-deletes f ∙ sym (ap (λ (i : ℕ). gathered T (λ a. a.deletes) place i f) at ∙ gathered_none T (λ a. a.deletes) place f);
      }

  module _ (s : Members) (adds deletes : FactSet) (so_far : Gathering T place s adds deletes) where
    part_more : (part : Job → FactSet) (x y : FactSet) (u : Members) (j : ℕ) (o : Option Job) → Rises s (Some j) u → T.job j ≡ o
        → ((f : ℕ) → has x f ≡ gathered T part place s.from f) → ((f : ℕ) → has y f ≡ (has x f || in_part part o f))
        → (f : ℕ) → has y f ≡ gathered T part place u.from f
    part_more part x y u j o (low, is) job_is before more f =
        more f ∙ or_comm (has x f) (in_part part o f) ∙ ap₂ ◌||◌ (sym (ap (λ (p : Option Job). in_part part p f) job_is)) (before f)
        ∙ sym (gathered_more T part place s so_far.set_is so_far.end_is j f low)
        ∙ sym (ap (λ (v : Members). gathered T part place v.from f) is)

    pub gathering_more : (u : Members) (j : ℕ) (a : Job) (adds' deletes' : FactSet) → Rises s (Some j) u → Some a ≡ T.job j
        → ((f : ℕ) → has adds' f ≡ (has adds f || has a.adds f)) → ((f : ℕ) → has deletes' f ≡ (has deletes f || has a.deletes f))
        → Gathering T place u adds' deletes'
    gathering_more u j a adds' deletes' step job_is more-adds more-deletes =
        record {
          set_is = ap (λ (x : Members). x.set) step.1 ∙ so_far.set_is;
          end_is = ap (λ (x : Members). x.end) step.1 ∙ so_far.end_is;
          adds_are = part_more (λ a. a.adds) adds adds' u j (Some a) step (sym job_is) so_far.adds_are more-adds;
          deletes_are = part_more (λ a. a.deletes) deletes deletes' u j (Some a) step (sym job_is) so_far.deletes_are more-deletes;
        }

    pub gathering_past : (u : Members) (j : ℕ) → Rises s (Some j) u → None ≡ T.job j → Gathering T place u adds deletes
    gathering_past u j step job_is =
        record {
          set_is = ap (λ (x : Members). x.set) step.1 ∙ so_far.set_is;
          end_is = ap (λ (x : Members). x.end) step.1 ∙ so_far.end_is;
          adds_are = part_more (λ a. a.adds) adds adds u j None step (sym job_is) so_far.adds_are (λ f. sym (or-false (has adds f)));
          deletes_are = part_more (λ a. a.deletes) deletes deletes u j None step (sym job_is) so_far.deletes_are (λ f. sym (or-false (has deletes f)));
        }

    pub gathering_all : (state with-adds r : FactSet) → ((j : ℕ) → Ahead s j → ⊥)
        → ((f : ℕ) → has with-adds f ≡ (has state f || has adds f)) → ((f : ℕ) → has r f ≡ (has with-adds f && not (has deletes f)))
        → has r ≡ result T (has state) (round_of T.m place)
    gathering_all state with-adds r off united less =
        fun_ext (λ f. less f ∙ ap₂ (λ (x y : Bool). x && not y)
        (united f ∙ ap (λ (x : Bool). has state f || x) (so_far.adds_are f ∙ gathered_all T (λ a. a.adds) place s so_far.set_is so_far.end_is f off))
        (so_far.deletes_are f ∙ gathered_all T (λ a. a.deletes) place s so_far.set_is so_far.end_is f off))
