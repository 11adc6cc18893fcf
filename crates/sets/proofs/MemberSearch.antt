-- What `find` and `find_map` over the members of a job set answer.
use Rattle.std.proofs.Common.{◌≡◌, ℕ, zero, suc, ◌+◌, ◌<◌, Bool, true, false, List, [], ◌∷◌, Option, Some, None, MatchOption, IfSome, IsSomeAnd, IsTrue, slice_get, sym, refl, ◌∙◌, subst, inl, inr, arith}
use Rattle.std.proofs.lemmas.Bool.{cases_order}
use Rattle.std.proofs.lemmas.Option.{none-some, same_Some}
use Rattle.std.specs.Fn.{Called, CalledAt, Mut}
use Rattle.std.specs.Iterator.{Yields}
use Rattle.std.specs.Iterator.Runs.{
  Run,
  YieldsRun,
  SomeRun,
  AllItems,
  AllItemsBelow,
  CallKeepsClosure,
  AllItemsGive,
  IsFirstToGive,
  NoItemPasses,
  EndsAtFirstPassing,
}
use denote.Ref.{Bor}
use Rattle.sets.specs.declared.members.Members.{Members}
use Rattle.sets.specs.Members.{Ahead, Rises}
use Rattle.sets.specs.Search.{Finds}

-- a member that is ahead before x comes, and one that is ahead after
later : (s u : Members) (x k : ℕ) → Rises s (Some x) u → x < k → Ahead s k → Ahead u k
later s u x k (_, is) lt (_, below, there) = subst (λ (v : Members). Ahead v k) (sym is) (omega arith, below, there)

sooner : (s u : Members) (x k : ℕ) → Rises s (Some x) u → Ahead u k → Ahead s k
sooner s u x k (((le, _, _), _), is) ahead =
    let (low, below, there) = subst (λ (v : Members). Ahead v k) is ahead in (omega arith, below, there)

module _ (P : ℕ → Type 0) where
  -- the members xs came, and then none: what holds of each of them holds of every member ahead
  all_ahead : (xs : List ℕ) (s t u : Members) → Yields Rises s xs t → Rises t None u → ((i : ℕ) → IfSome (slice_get xs i) P)
      → (k : ℕ) → Ahead s k → P k
  all_ahead [] s t u same (none, _) each k ahead = absurd (none k (subst (λ (v : Members). Ahead v k) same ahead))
  all_ahead (x ∷ xs) s t u (v, step, came) end each k ahead =
      elim (cases_order k x) [
        | inl same ↦ subst P (sym same) (each 0)
        | inr (inl lt) ↦ absurd (step.0.1 k lt ahead)
        | inr (inr gt) ↦ all_ahead xs v t u came end (λ i. each (suc i)) k (later s v x k step gt ahead)
      ]

  -- x came at place i: what holds of each before it holds of every member ahead below x
  ahead_below : (xs : List ℕ) (s t : Members) → Yields Rises s xs t → (i x : ℕ) → slice_get xs i ≡ Some x
      → ((h : ℕ) → h < i → IsSomeAnd (slice_get xs h) P) → Ahead s x × ((k : ℕ) → k < x → Ahead s k → P k)
  ahead_below [] s t came i x is before = absurd (none-some x is)
  ahead_below (y ∷ ys) s t (v, step, came) zero x is before =
      subst (λ (z : ℕ). Ahead s z × ((k : ℕ) → k < z → Ahead s k → P k)) (same_Some y x is)
      (step.0.0, λ k lt ahead. absurd (step.0.1 k lt ahead))
  ahead_below (y ∷ ys) s t (v, step, came) (suc i) x is before =
      let (here, below) = ahead_below ys v t came i x is (λ h lt. before (suc h) (omega arith)) in (
        sooner s v y x step here,
        λ k lt ahead. elim (cases_order k y) [
          | inl same ↦ subst P (sym same) (before 0 (omega arith))
          | inr (inl l) ↦ absurd (step.0.1 k l ahead)
          | inr (inr g) ↦ below k lt (later s v y k step g ahead)
        ],
      )

  module _ (s : Members) (p : Run Rises) (from : p.from ≡ s) where
    -- a run to the end: what holds of each member that came holds of every member ahead
    run_past : p.whole ≡ true → AllItems p P → (k : ℕ) → Ahead s k → P k
    unfolding YieldsRun
    run_past whole each k ahead =
        let ((t, came, end), at) = p.gave in
        let (u, step) = end whole in
        all_ahead p.items p.from t u came step (λ i. subst (λ (o : Option ℕ). IfSome o P) (at i) (each i)) k
        (subst (λ (v : Members). Ahead v k) (sym from) ahead)

    -- a run to x: what holds of each member that came before holds of every member ahead below x
    run_to : (i x : ℕ) → p.at i ≡ Some x → AllItemsBelow p i P → Ahead s x × ((k : ℕ) → k < x → Ahead s k → P k)
    unfolding YieldsRun
    run_to i x is before =
        let ((t, came, _), at) = p.gave in
        subst (λ (v : Members). Ahead v x × ((k : ℕ) → k < x → Ahead v k → P k)) from
        (ahead_below p.items p.from t came i x (sym (at i) ∙ is) (λ h lt. subst (λ (o : Option ℕ). IsSomeAnd o P) (at h) (before h lt)))

module _ {F : Type 0} {f : F} {s : Members} where
  -- `find`, of a closure that its calls leave as it was: the lowest member ahead that passes, if any does
  pub find_finds : {g : Mut F (Bor ℕ × Unit {0}) Bool} {Yes : ℕ → Type 0} (r : Option ℕ)
      → SomeRun Rises s (λ p. MatchOption r (IsTrue p.whole × NoItemPasses p g f) (EndsAtFirstPassing p g f))
      → CallKeepsClosure g f → ((k : ℕ) → CalledAt g f k true f → Yes k) → ((k : ℕ) → CalledAt g f k false f → Yes k → ⊥)
      → Finds (λ k. Ahead s k × Yes k) r
  find_finds {g = g} None (p, from, (whole, none)) keeps passes fails =
      λ k (ahead, here). fails k (run_past (λ x. CalledAt g f x false f) s p from whole (none keeps) k ahead) here
  find_finds {g = g} (Some x) (p, from, (i, _, is, gives)) keeps passes fails =
      let (hit, before) = gives keeps in
      let (here, below) = run_to (λ y. CalledAt g f y false f) s p from i x is before in
      ((here, passes x hit), λ k lt (ahead, also). fails k (below k lt ahead) also)

  -- `find_map`, likewise: the answer at the lowest member ahead that has one, and none below it has one
  pub find_map_gives : {B : Type 0} {g : Mut F (ℕ × Unit {0}) (Option B)} (r : Option B)
      → SomeRun Rises s (λ p. MatchOption r (IsTrue p.whole × AllItemsGive p g f None) (λ y. (i : ℕ) × (i < p.len) × (p.len ≡ i + 1) × IsFirstToGive p g f (Some y) None i))
      → CallKeepsClosure g f
      → MatchOption r ((k : ℕ) → Ahead s k → Called g f (k, tt) None f)
      (λ y. (x : ℕ) × Ahead s x × Called g f (x, tt) (Some y) f × ((k : ℕ) → k < x → Ahead s k → Called g f (k, tt) None f))
  find_map_gives {g = g} None (p, from, (whole, none)) keeps =
      run_past (λ x. Called g f (x, tt) None f) s p from whole (none keeps)
  find_map_gives {g = g} (Some y) (p, from, (i, _, _, gives)) keeps = at_hit (p.at i) refl (gives keeps)
    where
      at_hit : (o : Option ℕ) → p.at i ≡ o
          → IsSomeAnd o (λ x. Called g f (x, tt) (Some y) f) × AllItemsBelow p i (λ x. Called g f (x, tt) None f)
          → (x : ℕ) × Ahead s x × Called g f (x, tt) (Some y) f × ((k : ℕ) → k < x → Ahead s k → Called g f (k, tt) None f)
      at_hit None is (hit, _) = absurd hit
      at_hit (Some x) is (hit, before) =
          let (here, below) = run_to (λ z. Called g f (z, tt) None f) s p from i x is before in (x, here, hit, below)
