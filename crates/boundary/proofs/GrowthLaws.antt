-- What growing has done so far, and what that says of the table.
use Rattle.std.proofs.Common.{◌≡◌, ℕ, zero, suc, ◌+◌, ◌≤◌, true, false, ◌⊎◌, [], ◌∷◌, length, Ok, Err, Result, refl, sym, ap, ◌∙◌, inl, inr, add-one, arith}
use Rattle.std.proofs.lemmas.Bool.{both_ways, false≢true}
use Rattle.strips.specs.Tasks.{Meaning, Admitted}
use Rattle.strips.specs.Rules.{Says, Lawful}
use Rattle.reach.specs.Tables.{Table, KeptBehind}
use Rattle.planning.specs.declared.book.Book.{Book}
use Rattle.planning.specs.declared.refusal.Refusal.{Refusal}
use Rattle.planning.specs.Calls.{Opened, Grew, misfit, no_more, settles, rises}
use Rattle.planning.specs.Runs.{World, grow, opened, called, Story, growings}
use Rattle.planning.specs.Main.{Worked}
use Rattle.planning.proofs.ListsOfCalls.{stories}
use Rattle.report.specs.Growing.{growths}
use Rattle.boundary.specs.Growths.{GrownBy}

abbrev world : Book → Table → World
world b tb = record { book = b; table = tb; sheet = [] }

-- opening over tb₀ and this many growings led to the book b and the table tb
pub record SoFar (T : Meaning) (R : Says) (tb₀ : Table) (times : ℕ) (b : Book) (tb : Table) : Type 0 where
  pub story : Story T R
  pub opened_over : story.table ≡ tb₀
  pub growings_alone : story.calls ≡ growths times
  pub here : story.last ≡ record { book = b; table = tb; sheet = [] }
  pub behind : KeptBehind T.n tb₀ tb

growings_are : (n : ℕ) → growings (growths n) ≡ n
growings_are zero = refl
growings_are (suc n) = ap suc (growings_are n)

module _ (T : Meaning) (R : Says) (tb₀ : Table) where
  pub none_yet : (b : Book) (tb : Table) → Opened T tb₀ (Ok b) tb → SoFar T R tb₀ 0 b tb
  none_yet b tb opening = record {
    story = record {
      table = tb₀;
      first = world b tb;
      opening = opening;
      calls = [];
      last = world b tb;
      run = opened;
    };
    opened_over = refl;
    growings_alone = refl;
    here = refl;
    behind = opening.1.kept;
  }

  module _ {times : ℕ} {b : Book} {tb : Table} (so_far : SoFar T R tb₀ times b tb) where
    still_behind : (r : Result Unit Refusal) (b' : Book) (tb' : Table) → Grew T R b tb r b' tb' → KeptBehind T.n tb₀ tb'
    still_behind r b' tb' (misfit _ _ _ ts) = rw ts so_far.behind
    still_behind r b' tb' (no_more _ _ _ _ ts) = rw ts so_far.behind
    still_behind r b' tb' (settles _ _ _ _ _ ts) = rw ts so_far.behind
    still_behind r b' tb' (rises _ _ _ next _ _) =
        let before = so_far.behind in
        let now = next.kept in
        record { same_length = now.same_length ∙ before.same_length; behind = λ i le. now.behind i le ∙ before.behind i le }

    pub once_more : (r : Result Unit Refusal) (b' : Book) (tb' : Table) → Grew T R b tb r b' tb' → SoFar T R tb₀ (times + 1) b' tb'
    once_more r b' tb' grew =
        let σ = so_far.story in
        let step : Grew T R σ.last.book σ.last.table r b' tb' = rw so_far.here grew in
        let sheets : σ.last.sheet ≡ [] = ap (λ (w : World). w.sheet) so_far.here in
        record {
          story = record {
            table = σ.table;
            first = σ.first;
            opening = σ.opening;
            calls = grow ∷ σ.calls;
            last = world b' tb';
            run = called grow (world b' tb') σ.run (r, step, sym sheets);
          };
          opened_over = so_far.opened_over;
          growings_alone = rw (so_far.growings_alone, add-one) refl;
          here = refl;
          behind = still_behind r b' tb' grew;
        }

    -- a book that isn't settled grows
    pub not_refused : Admitted T → Lawful R → (e : Refusal) (b' : Book) (tb' : Table) → b.settled ≡ false → Grew T R b tb (Err e) b' tb' → ⊥
    not_refused ok law e b' tb' n (misfit bad _ _ _) =
        bad (let f = ((stories T R ok law).worked so_far.story).fits in rw so_far.here at f)
    not_refused ok law e b' tb' n (no_more _ y _ _ _) = both_ways b.settled n y
    not_refused ok law e b' tb' n (settles _ _ _ fine _ _) = false≢true fine
    not_refused ok law e b' tb' n (rises _ _ _ _ fine _) = false≢true fine

    -- what the theorem on lists of calls says of the table
    pub grown_by : Admitted T → Lawful R → (k : ℕ) → (times ≡ k) ⊎ ((times ≤ k) × (b.settled ≡ true)) → GrownBy T R k tb₀ b.t b.settled tb
    grown_by ok law k enough =
        let σ = so_far.story in
        let all = stories T R ok law in
        let L = all.last_layer in
        let worked : Worked T R L (length σ.first.sheet) σ.calls (world b tb) = (let w = all.worked σ in rw so_far.here at w) in
        let many : growings σ.calls ≡ times = ap growings so_far.growings_alone ∙ growings_are times in
        let is = so_far.here in
        record {
          story = σ;
          times = times;
          opened_over = so_far.opened_over;
          growings_alone = so_far.growings_alone;
          enough = enough;
          ends = (ap (λ (w : World). w.book.t) is, ap (λ (w : World). w.book.settled) is, ap (λ (w : World). w.table) is);
          behind = so_far.behind;
          last_layer = L;
          settles = all.settles;
          layer = elim enough [
            | inl e ↦ (let t = worked.layer in omega arith)
            | inr (le, y) ↦ (let t = worked.layer in let low = worked.settled.0 y in omega arith)
          ];
          settled = (
            (λ y. let low = worked.settled.0 y in elim enough [ inl e ↦ omega arith | inr (le, _) ↦ omega arith ]),
            (λ lt. elim enough [ inl e ↦ worked.settled.1 (omega arith) | inr (_, y) ↦ y ]),
          );
          entries = λ p q lp lq. rw (← worked.layer) at (worked.entries p q lp lq);
        }
