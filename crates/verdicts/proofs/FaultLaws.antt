-- What the searches of one round find, and what that says of the round.
use Rattle.std.proofs.Common.{◌≡◌, ℕ, ◌+◌, ◌<◌, ◌≤◌, true, false, not, ◌&&◌, ◌⊎◌, Some, None, Option, MatchOption, sym, refl, ◌∙◌, subst, inl, inr, arith, ap}
use Rattle.std.proofs.lemmas.Bool.{both_ways, cases_Bool, cases_order, and_parts, and_from, not-true, not_from_false}
use Rattle.std.proofs.lemmas.Option.{same_Some, none-some}
use Rattle.sets.specs.declared.facts.FactSet.{FactSet}
use Rattle.sets.specs.declared.jobs.JobSet.{JobSet}
use Rattle.sets.specs.declared.members.Members.{Members}
use Rattle.sets.specs.Facts.{has}
use Rattle.sets.specs.Members.{Ahead}
use Rattle.sets.specs.Search.{Finds, FindsPair}
use Rattle.strips.specs.declared.job.Job.{Job}
use Rattle.strips.specs.Tasks.{Meaning}
use Rattle.strips.specs.Rules.{Says}
use Rattle.strips.specs.Rounds.{State, Round, Holds, round_of, Allowed}
use Rattle.strips.proofs.MemberLaws.{ahead, in_round}
use Rattle.verdicts.specs.declared.verdict.Verdict.{Verdict}
use Rattle.verdicts.specs.Searches.{FirstAbsent, FirstPartner, FirstJoined}
use Rattle.verdicts.specs.Judging.{Absent, Partner, Joined, Clashing, Lacks, Lacking, Fault, closed, clash, missing}

here_or_not : {A : Type 0} (o : Option A) → ((x : A) × (o ≡ Some x)) ⊎ (o ≡ None)
here_or_not (Some x) = inl (x, refl)
here_or_not None = inr refl

-- two tests that hold of the same numbers find the same
finds_same : (P Q : ℕ → Type 0) (o : Option ℕ) → ((k : ℕ) → P k → Q k) → ((k : ℕ) → Q k → P k) → Finds P o → Finds Q o
finds_same P Q None to back none = λ k q. none k (back k q)
finds_same P Q (Some k) to back (here, first) = (to k here, λ i lt q. first i lt (back i q))

-- a walk s over the numbers of a place from `from` up and below m: they are ahead exactly if they are of the round
module _ (T : Meaning) {place : JobSet} {from m : ℕ} {s : Members} (is : s ≡ record { set = place; from = from; end = m }) (m_is : m ≡ T.m) where
  set_is : s.set ≡ place
  set_is = ap (λ (v : Members). v.set) is

  end_is : s.end ≡ T.m
  end_is = ap (λ (v : Members). v.end) is ∙ m_is

  from_is : s.from ≡ from
  from_is = ap (λ (v : Members). v.from) is

  of_round : (k : ℕ) → Ahead s k → (from ≤ k) × (round_of T.m place k ≡ true)
  of_round k here = let start = from_is in let le = here.0 in (omega arith, in_round T.m place s set_is end_is k here)

  to_come : (k : ℕ) → from ≤ k → round_of T.m place k ≡ true → Ahead s k
  to_come k le there = ahead T.m place s set_is end_is k (let start = from_is in omega arith) there

  pub finds_absent : from ≡ 0 → (o : Option ℕ) → Finds (λ k. Ahead s k × (T.job k ≡ None)) o → FirstAbsent T place o
  finds_absent start o =
      finds_same (λ k. Ahead s k × (T.job k ≡ None)) (Absent T (round_of T.m place)) o
      (λ k (here, none). ((of_round k here).1, none)) (λ k (there, none). (to_come k (omega arith) there, none))

  pub finds_partner : (R : Says) (j : ℕ) (a : Job) → from ≡ j + 1 → (o : Option ℕ)
      → Finds (λ k. Ahead s k × ((b : Job) × (T.job k ≡ Some b) × (R a b ≡ false))) o → FirstPartner T R place j a o
  finds_partner R j a start o =
      finds_same (λ k. Ahead s k × ((b : Job) × (T.job k ≡ Some b) × (R a b ≡ false))) (Partner T R (round_of T.m place) j a) o
      (λ k (here, apart). let (le, there) = of_round k here in (omega arith, there, apart))
      (λ k (lt, there, apart). (to_come k (omega arith) there, apart))

  pub finds_joined : {Gives : ℕ → Job → Option ℕ → Type 0} {Misses : ℕ → Type 0} {Hits : ℕ → ℕ × ℕ → Type 0} {o : Option (ℕ × ℕ)} → from ≡ 0
      → MatchOption o ((k : ℕ) → Ahead s k → Misses k) (λ y. (x : ℕ) × Ahead s x × Hits x y × ((k : ℕ) → k < x → Ahead s k → Misses k))
      → ((k : ℕ) → Misses k → (a : Job) → T.job k ≡ Some a → Gives k a None)
      → ((k : ℕ) (y : ℕ × ℕ) → Hits k y → (y.0 ≡ k) × ((a : Job) × (T.job k ≡ Some a) × Gives k a (Some y.1)))
      → FirstJoined T place Gives o
  finds_joined {o = None} start none miss hit =
      record { joined = tt; first = λ i _ a there is'. miss i (none i (to_come i (omega arith) there)) a is' }
  finds_joined {Gives = Gives} {o = Some (j, k)} start (x, here, hits, none) miss hit =
      let (same, (a, a-is, given)) = hit x (j, k) hits in
      record {
        joined = subst (λ (i : ℕ). Joined T (round_of T.m place) (λ h b l. Gives h b (Some l)) i k) (sym same) ((of_round x here).1, (a, a-is, given));
        first = λ i lt b there b-is. miss i (none i (omega arith) (to_come i (omega arith) there)) b b-is;
      }

-- where each answer finds what a job is joined to, the lowest job answered with a number is the lowest joined
pub joined_finds : (To : ℕ → Job → ℕ → Type 0) {T : Meaning} {place : JobSet} {Gives : ℕ → Job → Option ℕ → Type 0} {o : Option (ℕ × ℕ)}
    → FirstJoined T place Gives o → ((j : ℕ) (a : Job) (p : Option ℕ) → Gives j a p → Finds (To j a) p)
    → FindsPair (Joined T (round_of T.m place) To) o
joined_finds To {o = None} said finds =
    λ j k (there, (a, is, joined)). finds j a None (said.first j tt a there is) k joined
joined_finds To {T = T} {o = Some (j, k)} said finds =
    let (there, (a, is, given)) = said.joined in
    let (joined, first) = finds j a (Some k) given in (
      (
        (k, (there, (a, is, joined))),
        λ i lt (l, (also, (b, b-is, other))). finds i b None (said.first i lt b also b-is) l other,
      ),
      (
        (there, (a, is, joined)),
        λ i lt (_, (b, b-is, other)). first i lt (subst (λ (x : Job). To j x i) (same_Some b a (sym b-is ∙ is)) other),
      ),
    )

-- the facts of y that a state lacks, as a set x
pub finds_lacks : (x y state : FactSet) (o : Option ℕ) → ((f : ℕ) → has x f ≡ (has y f && not (has state f)))
    → Finds (λ f. has x f ≡ true) o → Finds (Lacks (has state) y) o
finds_lacks x y state o is =
    finds_same (λ f. has x f ≡ true) (Lacks (has state) y) o
    (λ f h. let (p, q) = and_parts (has y f) (not (has state f)) (sym (is f) ∙ h) in (p, not-true (has state f) q))
    (λ f (p, q). is f ∙ and_from (has y f) (not (has state f)) p (not_from_false (has state f) q))

pub holds_all : (s : State) (x : FactSet) → ((f : ℕ) → Lacks s x f → ⊥) → Holds s x
holds_all s x none f h = elim (cases_Bool (s f)) [ inl e ↦ e | inr e ↦ absurd (none f (h, e)) ]

-- a round without a fault is allowed
module _ (T : Meaning) (R : Says) (s : State) (r : Round) (swap : (a b : Job) → R a b ≡ R b a) (open' : (j : ℕ) → Absent T r j → ⊥)
    (peace : (j k : ℕ) → Clashing T R r j k → ⊥) (full : (j f : ℕ) → Lacking T s r j f → ⊥) where
  below_shares : (j k : ℕ) (a b : Job) → r j ≡ true → r k ≡ true → j < k → T.job j ≡ Some a → T.job k ≡ Some b → R a b ≡ true
  below_shares j k a b rj rk lt ja kb =
      elim (cases_Bool (R a b)) [ inl e ↦ e | inr e ↦ absurd (peace j k (rj, (a, ja, (lt, rk, (b, kb, e))))) ]

  pub no_fault : Allowed T R s r
  no_fault = record {
    present = λ j rj. elim (here_or_not (T.job j)) [ inl here ↦ here | inr none ↦ absurd (open' j (rj, none)) ];
    shared = λ j k a b rj rk ne ja kb.
        elim (cases_order j k) [
          | inl same ↦ absurd (ne same)
          | inr (inl lt) ↦ below_shares j k a b rj rk lt ja kb
          | inr (inr gt) ↦ swap a b ∙ below_shares k j b a rk rj gt kb ja
        ];
    held = λ j a rj ja. holds_all s a.needs (λ f lacks. full j f (rj, (a, ja, lacks)));
  }

-- a round with a fault is not
module _ (T : Meaning) (R : Says) where
  pub fault_not_allowed : (s : State) (i : ℕ) (r : Round) (v : Verdict) → Fault T R s i r v → Allowed T R s r → ⊥
  fault_not_allowed s i r v (closed j ((there, none), _) e) ok =
      let (a, is) = ok.present j there in none-some a (sym none ∙ is)
  fault_not_allowed s i r v (clash j k _ _ ((there, (a, ja, (lt, also, (b, kb, no')))), _) e) ok =
      both_ways (R a b) no' (ok.shared j k a b there also (omega arith) ja kb)
  fault_not_allowed s i r v (missing j f _ _ _ ((there, (a, ja, (needs, lacks))), _) e) ok = both_ways (s f) lacks (ok.held j a there ja f needs)
