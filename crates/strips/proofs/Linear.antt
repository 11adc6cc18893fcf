-- Plans are linear: a round's jobs done singly, in any order, give the round's result.
use Rattle.std.proofs.Common.{◌≡◌, ℕ, Bool, true, false, not, ◌&&◌, ◌||◌, ◌≢◌, ◌⊎◌, List, [], ◌∷◌, ◌++◌, Some, Option, sym, refl, ap, ◌∙◌, subst, ap₂, inl, inr}
use mathlib.Core.Path.{fun_ext}
use Rattle.std.proofs.lemmas.Bool.{both_ways, cases_Bool, and_from, or_cases, or_left, or_right}
use Rattle.std.specs.Cmp.{both_ways as same_tests}
use Rattle.sets.specs.declared.facts.FactSet.{FactSet}
use Rattle.sets.specs.Facts.{has}
use Rattle.strips.specs.declared.job.Job.{Job}
use Rattle.strips.specs.Jobs.{Interferes}
use Rattle.strips.specs.Tasks.{Meaning, Admitted}
use Rattle.strips.specs.Rules.{Says, Lawful}
use Rattle.strips.specs.Rounds.{State, Round, Holds, Allowed, in_part, some_job, result, PlanFrom}
use Rattle.strips.specs.Singly.{done, Singly, Among, Once, OrderOf, FreeOrder}
use Rattle.strips.specs.Linear.{PlansAreLinear}
use Rattle.strips.proofs.PartLaws.{part_found, some_found, some_made}

-- one job before the others, at one fact: s is the state, d and a what the job deletes and adds, A and
-- D what the others add and delete
one_first : (s d a A D : Bool) → (a ≡ true → d ≡ true → ⊥) → (A ≡ true → d ≡ true → ⊥)
    → ((((s && not d) || a) || A) && not D) ≡ ((s || (a || A)) && not (d || D))
one_first s true true A D h k = absurd (h refl refl)
one_first s true false true D h k = absurd (k refl refl)
one_first true true false false D h k = refl
one_first false true false false D h k = refl
one_first true false a A D h k = refl
one_first false false true A D h k = refl
one_first false false false A D h k = refl

unchanged : (s : Bool) → ((s || false) && true) ≡ s
unchanged true = refl
unchanged false = refl

-- as some_job and result, for the jobs of a list
abbrev some_listed : Meaning → (Job → FactSet) → List ℕ → ℕ → Bool
some_listed T part [] f = false
some_listed T part (j ∷ js) f = in_part part (T.job j) f || some_listed T part js f

abbrev listed_result : Meaning → State → List ℕ → State
listed_result T s js f = (s f || some_listed T (λ a. a.adds) js f) && not (some_listed T (λ a. a.deletes) js f)

module _ (T : Meaning) (part : Job → FactSet) where
  listed_found : (js : List ℕ) (f : ℕ) → some_listed T part js f ≡ true
      → (j : ℕ) × (a : Job) × Among j js × (T.job j ≡ Some a) × (has (part a) f ≡ true)
  listed_found [] f h = absurd (both_ways false refl h)
  listed_found (j ∷ js) f h =
      elim (or_cases _ _ h) [
        | inl e ↦ let (a, is, fa) = part_found part (T.job j) f e in (j, a, inl refl, is, fa)
        | inr e ↦ let (k, a, among, is, fa) = listed_found js f e in (k, a, inr among, is, fa)
      ]

  listed_made : (js : List ℕ) (f j : ℕ) (a : Job) → Among j js → T.job j ≡ Some a → has (part a) f ≡ true → some_listed T part js f ≡ true
  listed_made [] f j a among is h = absurd among
  listed_made (k ∷ js) f j a (inl e) is h =
      or_left _ _ (subst (λ (o : Option Job). in_part part o f ≡ true) (sym is ∙ ap T.job e) h)
  listed_made (k ∷ js) f j a (inr among) is h = or_right (in_part part (T.job k) f) _ (listed_made js f j a among is h)

module _ (T : Meaning) (R : Says) (ok : Admitted T) (law : Lawful R) where
  -- jobs that can all be done from the state s, in any order
  record Ready (s : State) (js : List ℕ) : Type 0 where
    once : Once js
    present : (j : ℕ) → Among j js → (a : Job) × (T.job j ≡ Some a)
    harmless : (j k : ℕ) (a b : Job) → Among j js → Among k js → j ≢ k → T.job j ≡ Some a → T.job k ≡ Some b → Interferes a b → ⊥
    held : (j : ℕ) (a : Job) → Among j js → T.job j ≡ Some a → Holds s a.needs

  module _ (s : State) (j : ℕ) (js : List ℕ) (ready : Ready s (j ∷ js)) (a : Job) (is : T.job j ≡ Some a) where
    other : (k : ℕ) → Among k js → j ≢ k
    other k among e = ready.once.0 (subst (λ (i : ℕ). Among i js) (sym e) among)

    spared : (f k : ℕ) (b : Job) → Among k js → T.job k ≡ Some b → (has b.needs f ≡ true) ⊎ (has b.adds f ≡ true) → has a.deletes f ≡ true → ⊥
    spared f k b among kb h d = ready.harmless j k a b (inl refl) (inr among) (other k among) is kb (inl (f, d, h))

    kept : (f k : ℕ) (b : Job) → Among k js → T.job k ≡ Some b → has b.needs f ≡ true → not (has a.deletes f) ≡ true
    kept f k b among kb h =
        elim (cases_Bool (has a.deletes f)) [ inl d ↦ absurd (spared f k b among kb (inl h) d) | inr d ↦ ap not d ]

    still_ready : Ready (done a s) js
    still_ready =
        record {
          once = ready.once.1;
          present = λ k among. ready.present k (inr among);
          harmless = λ k l b d x y. ready.harmless k l b d (inr x) (inr y);
          held = λ k b among kb f h. or_left _ _ (and_from _ _ (ready.held k b (inr among) kb f h) (kept f k b among kb h));
        }

    same_result : listed_result T s (j ∷ js) ≡ listed_result T (done a s) js
    same_result =
        fun_ext (λ f.
        let opened : listed_result T s (j ∷ js) f
        ≡ ((s f || (has a.adds f || some_listed T (λ a. a.adds) js f)) && not (has a.deletes f || some_listed T (λ a. a.deletes) js f)) =
        ap (λ (o : Option Job). (s f || (in_part (λ a. a.adds) o f || some_listed T (λ a. a.adds) js f)) && not (in_part (λ a. a.deletes) o f || some_listed T (λ a. a.deletes) js f)) is
        in
        opened
        ∙ sym (one_first (s f) (has a.deletes f) (has a.adds f) _ _
        (λ h d. both_ways (has a.deletes f) ((ok.fair j a is).not_both f h) d)
        (λ h d. let (k, b, among, kb, fb) = listed_found T (λ a. a.adds) js f h in spared f k b among kb (inr fb) d)))

  singly : (js : List ℕ) (s : State) → Ready s js → (rest : List ℕ) (e : State) → Singly T (listed_result T s js) rest e → Singly T s (js ++ rest) e
  singly [] s ready rest e h = subst (λ (x : State). Singly T x rest e) (fun_ext (λ f. unchanged (s f))) h
  singly (j ∷ js) s ready rest e h =
      let (a, is) = ready.present j (inl refl) in (
        a,
        is,
        ready.held j a (inl refl) is,
        singly js (done a s) (still_ready s j js ready a is) rest e
            (subst (λ (x : State). Singly T x rest e) (same_result s j js ready a is) h),
      )

  ready_of : (s : State) (r : Round) (js : List ℕ) → Allowed T R s r → OrderOf r js → Ready s js
  ready_of s r js allowed order =
      record {
        once = order.once;
        present = λ j among. allowed.present j (order.only j among);
        harmless = λ j k a b x y ne ja kb. law.harmless a b (allowed.shared j k a b (order.only j x) (order.only k y) ne ja kb);
        held = λ j a among. allowed.held j a (order.only j among);
      }

  same_part : (part : Job → FactSet) (r : Round) (js : List ℕ) → OrderOf r js → (f : ℕ) → some_listed T part js f ≡ some_job T part r f
  same_part part r js order f =
      same_tests _ _
      (λ h. let (j, a, among, is, fa) = listed_found T part js f h in some_made T part r ok f j a (order.only j among) is fa)
      (λ h. let (j, a, there, is, fa) = some_found T part r f h in listed_made T part js f j a (order.each j there) is fa)

  result_is : (s : State) (r : Round) (js : List ℕ) → OrderOf r js → result T s r ≡ listed_result T s js
  result_is s r js order =
      sym (fun_ext (λ f. ap₂ (λ (x y : Bool). (s f || x) && not y) (same_part (λ a. a.adds) r js order f) (same_part (λ a. a.deletes) r js order f)))

  linear_from : (rs : List Round) (s : State) → PlanFrom T R s rs
      → (e : State) × Holds e T.goal × ((js : List ℕ) → FreeOrder rs js → Singly T s js e)
  linear_from [] s h = (s, h, λ js none. subst (λ (x : List ℕ). Singly T s x s) (sym none) refl)
  linear_from (r ∷ rs) s (allowed, h) =
      let (e, goal, all) = linear_from rs (result T s r) h in (
        e,
        goal,
        λ js free.
            let (ks, ls, order, rest, is) = free in
            subst (λ (x : List ℕ). Singly T s x e) (sym is)
            (singly ks s (ready_of s r ks allowed order) ls e
            (subst (λ (x : State). Singly T x ls e) (result_is s r ks order) (all ls rest))),
      )

pub plans_are_linear : PlansAreLinear
plans_are_linear T R ok law rs plan = linear_from T R ok law rs (has T.start) plan
