-- Interference as a test, and why the three sharing rules are lawful. These are lemmas, for the ghost members that the rules owe.
use Rattle.std.specs.Prelude.{◌≡◌, ℕ, Bool, true, false, not, ◌&&◌, ◌||◌, ◌⊎◌, Decides, ◌==◌, refl}
use Rattle.std.proofs.Common.{sym, ap, ap₂, ◌∙◌, inl, inr}
use Rattle.std.proofs.Math.Bool.{or_comm}
use Rattle.std.proofs.lemmas.Bool.{and_parts, and_from, or_cases, or_left, or_right, both_ways, cases_Bool, not-true, not_from_true, not_from_false}
use Rattle.std.proofs.lemmas.Bool.Decides.{Decides-or, Decides-not, Decides-eqb, Decides-like, same_from_decides}
use Rattle.sets.specs.declared.facts.FactSet.{FactSet}
use Rattle.sets.specs.Facts.{has}
use Rattle.sets.proofs.FactLaws.{has_below}
use Rattle.sets.proofs.SearchLaws.{decides_any}
use Rattle.strips.specs.declared.job.Job.{Job}
use Rattle.strips.specs.Jobs.{Spoils, Interferes, spoils, interferes}
use Rattle.strips.specs.Rules.{Lawful, apart, single_file, zones_agree, zoned}

in_either : (x y : Bool) → (x ≡ true) ⊎ (y ≡ true) → (x || y) ≡ true
in_either x y (inl e) = or_left x y e
in_either x y (inr e) = or_right x y e

pub decides_spoils : (a b : Job) → Decides (spoils a b) (Spoils a b)
unfolding spoils
decides_spoils a b = (
  (λ h.
      let (f, lt, e) = (decides_any 128 (λ f. has a.deletes f && (has b.needs f || has b.adds f))).0 h in
      let (d, o) = and_parts _ _ e in
      (f, d, or_cases _ _ o)),
  (λ w.
      let (f, d, o) = w in
      (decides_any 128 (λ f. has a.deletes f && (has b.needs f || has b.adds f))).1
      (f, has_below a.deletes f d, and_from _ _ d (in_either _ _ o))),
)

pub decides_interferes : (a b : Job) → Decides (interferes a b) (Interferes a b)
unfolding interferes
decides_interferes a b = Decides-or (spoils a b) (spoils b a) (decides_spoils a b) (decides_spoils b a)

pub interferes_swap : (a b : Job) → interferes a b ≡ interferes b a
unfolding interferes
interferes_swap a b = or_comm (spoils a b) (spoils b a)

-- a set x of what b needs and adds, and whether a's deletes have nothing of it
pub not_disjoint : (a b : Job) (x : FactSet) (r : Bool) → ((f : ℕ) → has x f ≡ (has b.needs f || has b.adds f))
    → Decides r ((f : ℕ) → has a.deletes f ≡ true → has x f ≡ false) → not r ≡ spoils a b
not_disjoint a b x r is d =
    elim (cases_Bool (spoils a b)) [
      | inl yes' ↦
          let (f, del, o) = (decides_spoils a b).0 yes' in
          elim (cases_Bool r) [
            | inl t ↦ absurd (both_ways (has x f) (d.0 t f del) (is f ∙ in_either _ _ o))
            | inr t ↦ not_from_false r t ∙ sym yes'
          ]
      | inr no' ↦
          let t : r ≡ true = d.1 (λ f del. elim (cases_Bool (has x f)) [
            | inl e ↦ absurd (both_ways (spoils a b) no' ((decides_spoils a b).1 (f, del, or_cases _ _ (sym (is f) ∙ e))))
            | inr e ↦ e
          ]) in
          not_from_true r t ∙ sym no'
    ]

pub decides_apart : (a b : Job) → Decides (apart a b) (Interferes a b → ⊥)
decides_apart a b = Decides-not (interferes a b) (decides_interferes a b)

pub apart_lawful : Lawful apart
apart_lawful = record {
  symmetric = λ a b. ap not (interferes_swap a b);
  harmless = λ a b e w. both_ways (interferes a b) (not-true (interferes a b) e) ((decides_interferes a b).1 w);
}

pub single_file_lawful : Lawful single_file
single_file_lawful = record { symmetric = λ a b. refl; harmless = λ a b e w. both_ways false refl e }

equal_swap : (x y : ℕ) → (x == y) ≡ (y == x)
equal_swap x y = same_from_decides _ _ (Decides-eqb x y) (Decides-like (y == x) sym sym (Decides-eqb y x))

zones_swap : (a b : Job) → zones_agree a b ≡ zones_agree b a
zones_swap a b = ap₂ ◌||◌ (ap not (equal_swap a.zone b.zone)) (or_comm (a.zone == 0) (b.zone == 0))

pub zoned_lawful : Lawful zoned
zoned_lawful = record {
  symmetric = λ a b. ap₂ ◌&&◌ (ap not (interferes_swap a b)) (zones_swap a b);
  harmless = λ a b e. apart_lawful.harmless a b (and_parts (apart a b) (zones_agree a b) e).0;
}
