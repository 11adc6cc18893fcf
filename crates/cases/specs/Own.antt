-- A named task and a rule that aren't the library's: what they mean, and why the task is admitted, its names are names,
-- and the rule is lawful.
--
--   facts_by n p       the facts below n that pass the test p
--   at_end k f         place f is the last of a rail, of two with k places each
--   move k f           the job that takes the trolley at place f one place on, in zone f mod k
--   rails k            two rails of k places, numbered from 0 along the one and on along the other, with a trolley
--                      at the first place of each, which is to get to the last. Fact f says that one stands at
--                      place f; job f moves it on, and is absent at the last place of a rail
--   rail_names k       each number of the two rails has the name of its rail, A or B
--   spread             yes exactly if apart says so and the zones differ, where 0 is a zone like the others
use Rattle.std.specs.Prelude.{◌≡◌, ℕ, ◌+◌, ◌-◌, ◌*◌, ◌%◌, ◌≤◌, Bool, true, false, cond, not, ◌&&◌, ◌||◌, ◌==◌, nat_lt, if◌then◌else◌, [], codes, Some, None, Option, refl}
use Rattle.std.proofs.Common.{sym, ap, ap₂, subst, ◌∙◌, inl, inr, lit≤}
use Rattle.std.proofs.Math.Nat.{le_trans, le_refl, not-suc-le_self}
use Rattle.std.proofs.Math.Numerals.{suc-eq-add-one}
use Rattle.std.proofs.lemmas.Bool.{and_parts, both_ways, cases_Bool, eqb-true, le-ltb, ltb-true}
use Rattle.std.proofs.lemmas.Bool.Decides.{Decides-eqb, Decides-like, same_from_decides}
use Rattle.std.proofs.lemmas.Option.{none-some, same_Some}
use Rattle.sets.specs.declared.facts.FactSet.{FactSet}
use Rattle.sets.specs.Facts.{has, set_of}
use Rattle.sets.proofs.FactLaws.{in_set_of}
use Rattle.strips.specs.declared.job.Job.{Job}
use Rattle.strips.specs.JobLaws.{apart_lawful}
use Rattle.strips.specs.Rules.{Says, Lawful, apart}
use Rattle.strips.specs.Tasks.{Meaning, Below, Fair, Admitted}
use Rattle.pages.specs.Names.{Names, IsName, Naming}

abbrev pub facts_by : ℕ → (ℕ → Bool) → FactSet
facts_by n p = set_of (λ f. nat_lt f n && p f)

abbrev pub at_end : ℕ → ℕ → Bool
at_end k f = f == k - 1 || f == 2 * k - 1

abbrev pub move : ℕ → ℕ → Job
move k f = record {
  zone = f % k;
  needs = facts_by (2 * k) (λ g. g == f);
  adds = facts_by (2 * k) (λ g. g == f + 1);
  deletes = facts_by (2 * k) (λ g. g == f);
}

abbrev pub rails : ℕ → Meaning
rails k = record {
  n = 2 * k;
  m = 2 * k;
  start = facts_by (2 * k) (λ f. f == 0 || f == k);
  goal = facts_by (2 * k) (at_end k);
  job = λ f. if nat_lt f (2 * k) && not (at_end k f) then Some (move k f) else None;
}

abbrev pub rail_names : ℕ → Names
rail_names k j = if nat_lt j (2 * k) then (if nat_lt j k then codes "A" else codes "B") else []

abbrev pub spread : Says
spread a b = apart a b && not (a.zone == b.zone)

in_facts_by : (n : ℕ) (p : ℕ → Bool) (f : ℕ) → has (facts_by n p) f ≡ true → (nat_lt f n ≡ true) × (p f ≡ true)
in_facts_by n p f h = and_parts (nat_lt f n) (p f) (in_set_of (λ g. nat_lt g n && p g) f h)

below_by : (n : ℕ) (p : ℕ → Bool) → Below n (facts_by n p)
below_by n p f h = ltb-true f n (in_facts_by n p f h).0

fair_move : (k f : ℕ) → Fair (2 * k) (move k f)
fair_move k f = record {
  needs = below_by (2 * k) (λ g. g == f);
  adds = below_by (2 * k) (λ g. g == f + 1);
  deletes = below_by (2 * k) (λ g. g == f);
  not_both = λ g added. elim (cases_Bool (has (move k f).deletes g)) [ inl d ↦ absurd (both g added d) | inr d ↦ d ];
}
  where
    both : (g : ℕ) → has (move k f).adds g ≡ true → has (move k f).deletes g ≡ true → ⊥
    both g added deleted =
        let next : g ≡ f + 1 = eqb-true g (f + 1) (in_facts_by (2 * k) (λ h. h == f + 1) g added).1 in
        let here : g ≡ f = eqb-true g f (in_facts_by (2 * k) (λ h. h == f) g deleted).1 in
        not-suc-le_self f (subst (λ (h : ℕ). h ≤ f) (sym here ∙ next ∙ sym (suc-eq-add-one f)) (le_refl f))

pub rails_admitted : (k : ℕ) → 1 ≤ 2 * k → 2 * k ≤ 128 → Admitted (rails k)
rails_admitted k some few = record {
  some_fact = some;
  few_facts = few;
  few_jobs = le_trans few (lit≤ tt);
  start = below_by (2 * k) (λ f. f == 0 || f == k);
  goal = below_by (2 * k) (at_end k);
  fair = λ f a e. subst (λ (b : Job). Fair (2 * k) b) (there (nat_lt f (2 * k) && not (at_end k f)) (move k f) a e) (fair_move k f);
  absent = λ f le. gone (nat_lt f (2 * k)) (not (at_end k f)) (Some (move k f)) (le-ltb f (2 * k) le);
}
  where
    there : (b : Bool) (c a : Job) → cond b (Some c) None ≡ Some a → c ≡ a
    there true c a e = same_Some c a e
    there false c a e = absurd (none-some a e)

    gone : (b x : Bool) (o : Option Job) → b ≡ false → cond (b && x) o None ≡ None
    gone true x o e = absurd (both_ways true e refl)
    gone false x o e = refl

pub rails_named : (k : ℕ) → Naming (2 * k) (rail_names k)
rails_named k = record {
  named = λ j. each (nat_lt j (2 * k)) (nat_lt j k);
  unnamed = λ j le. ap (λ (b : Bool). cond b (if nat_lt j k then codes "A" else codes "B") []) (le-ltb j (2 * k) le);
}
  where
    each : (b c : Bool) → IsName (cond b (cond c (codes "A") (codes "B")) [])
    each true true = (lit≤ tt, ((lit≤ tt, lit≤ tt), tt))
    each true false = (lit≤ tt, ((lit≤ tt, lit≤ tt), tt))
    each false c = (lit≤ tt, tt)

zones_swap : (a b : Job) → (a.zone == b.zone) ≡ (b.zone == a.zone)
zones_swap a b = same_from_decides _ _ (Decides-eqb a.zone b.zone) (Decides-like (b.zone == a.zone) sym sym (Decides-eqb b.zone a.zone))

pub spread_lawful : Lawful spread
spread_lawful = record {
  symmetric = λ a b. ap₂ ◌&&◌ (apart_lawful.symmetric a b) (ap not (zones_swap a b));
  harmless = λ a b e. apart_lawful.harmless a b (and_parts (apart a b) (not (a.zone == b.zone)) e).0;
}
