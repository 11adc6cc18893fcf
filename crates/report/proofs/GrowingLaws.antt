-- What growing has done so far, and that it comes to an end.
use Rattle.std.proofs.Common.{◌≡◌, ℕ, suc, ◌+◌, ◌-◌, ◌<◌, ◌≤◌, cond, ◌⊎◌, List, Ok, Err, Result, refl, inl, inr, arith}
use Rattle.std.proofs.lemmas.Bool.{both_ways, cases_Bool}
use Rattle.sets.specs.declared.jobs.JobSet.{JobSet}
use Rattle.strips.specs.Tasks.{Meaning}
use Rattle.strips.specs.Rules.{Says}
use Rattle.layers.specs.Pairs.{pair_count}
use Rattle.reach.specs.Tables.{Table}
use Rattle.planning.specs.declared.book.Book.{Book}
use Rattle.planning.specs.declared.refusal.Refusal.{Refusal}
use Rattle.planning.specs.declared.report.Distance.{Distance}
use Rattle.planning.specs.declared.report.Distance.TheVariants.{Told, NoPlan, AtLeast}
use Rattle.planning.specs.Calls.{Fits, Grew, misfit, no_more, settles, rises, Asked}
use Rattle.planning.specs.Reports.{number, none}
use Rattle.planning.specs.Runs.{grow, Run, opened, called}
use Rattle.planning.specs.Main.{Decided}
use Rattle.planning.proofs.DistanceLaws.{not_settled}
use Rattle.report.specs.Growing.{growths, GrownOut, GrownToEnd}

-- how many growings are left at most
abbrev pub left : ℕ → Book → ℕ
left n b = (pair_count n - b.t) + cond b.settled 0 1

pub record SoFar (T : Meaning) (R : Says) (b : Book) (tb : Table) (b' : Book) (tb' : Table) : Type 0 where
  pub times : ℕ
  pub few : times + left T.n b' ≤ pair_count T.n + 1
  pub run : (sh : List JobSet) → Run T R (record { book = b; table = tb; sheet = sh }) (growths times) (record { book = b'; table = tb'; sheet = sh })
  pub begun : ((b' ≡ b) × (tb' ≡ tb)) ⊎ Fits T b tb
  pub fits : Fits T b tb → Fits T b' tb'

left_few : (n : ℕ) (b : Book) → left n b ≤ pair_count n + 1
left_few n b = elim (cases_Bool b.settled) [ inl e ↦ rw e (omega arith) | inr e ↦ rw e (omega arith) ]

pub not_yet : (T : Meaning) (R : Says) (b : Book) (tb : Table) → SoFar T R b tb b tb
not_yet T R b tb = record {
  times = 0;
  few = let few = left_few T.n b in omega arith;
  run = λ sh. opened;
  begun = inl (refl, refl);
  fits = λ f. f;
}

module _ {T : Meaning} {R : Says} {b : Book} {tb : Table} {b₁ : Book} {tb₁ : Table} (so_far : SoFar T R b tb b₁ tb₁) where
  begun_fits : Fits T b₁ tb₁ → Fits T b tb
  begun_fits f = elim so_far.begun [ inl (bs, ts) ↦ rw (bs, ts) at f | inr g ↦ g ]

  -- a growing after which the table fits again, and fewer are left
  go_on : (r : Result Unit Refusal) (b₂ : Book) (tb₂ : Table) → Fits T b₁ tb₁ → Fits T b₂ tb₂ → left T.n b₂ < left T.n b₁
      → Grew T R b₁ tb₁ r b₂ tb₂ → (left T.n b₂ < left T.n b₁) × SoFar T R b tb b₂ tb₂
  go_on r b₂ tb₂ f₁ f₂ fewer grew = (
    fewer,
    record {
      times = suc so_far.times;
      few = let few = so_far.few in omega arith;
      run = λ sh. called grow _ (so_far.run sh) (r, grew, refl);
      begun = inr (begun_fits f₁);
      fits = λ _. f₂;
    },
  )

  -- one more growing, where neither a distance nor none is told
  pub once_more : (k : ℕ) (r : Result Unit Refusal) (b₂ : Book) (tb₂ : Table) → Asked T b₁ tb₁ (Ok (AtLeast k)) → Grew T R b₁ tb₁ r b₂ tb₂
      → (left T.n b₂ < left T.n b₁) × SoFar T R b tb b₂ tb₂
  once_more k r b₂ tb₂ (fits, _) (misfit bad _ _ _) = absurd (bad fits)
  once_more k r b₂ tb₂ (_, by) (no_more _ y _ _ _) = absurd (both_ways b₁.settled (not_settled T b₁ tb₁ k by) y)
  once_more k r b₂ tb₂ (f, by) (settles g n why ok bs ts) =
      let s = not_settled T b₁ tb₁ k by in
      go_on r b₂ tb₂ f (rw (bs, ts) record { n_is = f.n_is; m_is = f.m_is; room = f.room }) (rw (bs, s) (omega arith)) (settles g n why ok bs ts)
  once_more k r b₂ tb₂ (f, by) (rises g n lt next ok bs) =
      let s = not_settled T b₁ tb₁ k by in
      go_on r b₂ tb₂ f (rw bs record { n_is = f.n_is; m_is = f.m_is; room = let room = f.room in let same = next.kept.same_length in omega arith })
      (rw (bs, s) (omega arith)) (rises g n lt next ok bs)

  -- what is told is a distance or none
  pub ended : (d : Distance) → Asked T b₁ tb₁ (Ok d) → ((k : ℕ) → d ≡ AtLeast k → ⊥) → GrownOut T R b tb b₁ tb₁
  ended d (_, by) not_at_least = record {
    times = so_far.times;
    few = let few = so_far.few in omega arith;
    run = so_far.run;
    decides = (d, by, decided d not_at_least);
  }
    where
      decided : (d : Distance) → ((k : ℕ) → d ≡ AtLeast k → ⊥) → Decided d
      decided (Told x) _ = number x refl tt
      decided NoPlan _ = none refl tt
      decided (AtLeast k) out = absurd (out k refl)

  -- asking is refused only at the beginning
  pub asking_refused : (e : Refusal) → Asked T b₁ tb₁ (Err e) → GrownToEnd T R b tb (Err e) b₁ tb₁
  asking_refused e (bad, is) =
      let out : Fits T b tb → ⊥ = λ f. bad (so_far.fits f) in
      elim so_far.begun [ inl (bs, ts) ↦ (out, is, bs, ts) | inr f ↦ absurd (out f) ]

-- where neither a distance nor none is told, growing is not refused
pub growing_accepted : (T : Meaning) (R : Says) (b : Book) (tb : Table) (k : ℕ) (e : Refusal) (b' : Book) (tb' : Table)
    → Asked T b tb (Ok (AtLeast k)) → Grew T R b tb (Err e) b' tb' → ⊥
growing_accepted T R b tb k e b' tb' (f, _) (misfit bad _ _ _) = bad f
growing_accepted T R b tb k e b' tb' (_, by) (no_more _ y _ _ _) = both_ways b.settled (not_settled T b tb k by) y
growing_accepted T R b tb k e b' tb' _ (settles _ _ _ ok _ _) = cc
growing_accepted T R b tb k e b' tb' _ (rises _ _ _ _ ok _) = cc
