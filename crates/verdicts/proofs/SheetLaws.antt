-- The walk over a sheet, and what its verdict says of plans.
use Rattle.std.proofs.Common.{◌≡◌, ℕ, suc, ◌+◌, ◌<◌, ◌≤◌, ltb, List, [], ◌∷◌, map, length, get_or, take, drop, Some, None, Ok, Option, sym, ap, ◌∙◌, subst, inl, inr, arith, length-take, Iter, Bor}
use lib.ListN.{length-map}
use Rattle.std.proofs.lemmas.List.{drop_more, drop_all, get_or-map, get_or-take}
use Rattle.std.proofs.lemmas.Bool.{and_parts, ltb-true, both_ways}
use Rattle.std.proofs.lemmas.List.FromFn.{length-range_with_len, get_or-range_with_len}
use Rattle.std.proofs.lemmas.Slice.Zip.{length-zip, get_or-zip}
use Rattle.std.proofs.lemmas.Iterator.{YieldsList, YieldsList-from_range, YieldsList-from_slice, YieldsList-from_zip, zips}
use Rattle.std.proofs.lemmas.Iterator.Consumers.{YieldsList-turn, YieldsList-end}
use Rattle.std.proofs.iter.Yields.{fronts, nat_range_steps}
use Rattle.std.specs.Iterator.{Yields}
use Rattle.std.specs.Iterator.Adapters.{zip_first, zip_second}
use Rattle.std.specs.List.{range_with_len, zip}
use Rattle.std.specs.Slice.Iter.{iter_rest}
use Rattle.std.specs.declared.iter.Zip.{Zip}
use Rattle.std.specs.declared.ops.Range.{Range}
use Rattle.sets.specs.declared.jobs.JobSet.{JobSet}
use Rattle.sets.specs.Facts.{has}
use Rattle.strips.specs.Tasks.{Meaning, Admitted}
use Rattle.strips.specs.Rules.{Says, Lawful}
use Rattle.strips.specs.Rounds.{State, Round, round_of, Allowed, result, PlanFrom}
use Rattle.strips.specs.Linear.{Numbered}
use Rattle.strips.proofs.Linear.{plans_are_linear}
use Rattle.strips.proofs.Orders.{rounds_have_orders}
use Rattle.verdicts.specs.declared.verdict.Verdict.{Verdict}
use Rattle.verdicts.specs.Verdicts.{told, IsSound}
use Rattle.verdicts.specs.Judging.{Fault, closed, clash, missing, Ended, goal, sound, JudgedFrom, Judged}
use Rattle.verdicts.specs.Sheets.{rounds_of, VerdictOn, Answered}
use Rattle.verdicts.proofs.FaultLaws.{fault_not_allowed}
use Rattle.verdicts.proofs.OneVerdict.{one_verdict}

module _ (m n : ℕ) (sheet : List JobSet) (room : n ≤ length sheet) where
  rounds_long : length (rounds_of m n sheet) ≡ n
  rounds_long = length-map (take n sheet) (round_of m) ∙ length-take n sheet ∙ omega arith

  -- the rounds from number i on begin with the round at place i
  pub rounds_next : (i : ℕ) (d : JobSet) → i < n → drop i (rounds_of m n sheet) ≡ round_of m (get_or sheet i d) ∷ drop (i + 1) (rounds_of m n sheet)
  rounds_next i d lt =
      let long = rounds_long in
      let inside : i < length (take n sheet) = simp length-take (omega arith) in
      let rs : List Round = rounds_of m n sheet in
      drop_more rs i (round_of m d) (omega arith)
      ∙ ap (λ (r : Round). r ∷ drop (i + 1) rs) (get_or-map (round_of m) (take n sheet) i d (round_of m d) inside ∙ ap (round_of m) (get_or-take n sheet i d lt))

  pub rounds_end : drop n (rounds_of m n sheet) ≡ []
  rounds_end = let long = rounds_long in drop_all n (rounds_of m n sheet) (omega arith)

numbered : (m : ℕ) (places : List JobSet) → Numbered m (map (round_of m) places)
numbered m [] = tt
numbered m (p ∷ ps) = ((λ j e. ltb-true j m (and_parts (ltb j m) _ e).0), numbered m ps)

-- sound is the one verdict without numbers
with_number : (v : Verdict) (w : List ℕ) (n : ℕ) (ns : List ℕ) → told v ≡ (w, n ∷ ns) → IsSound v → ⊥
with_number v w n ns e h = let z : suc (length ns) ≡ 0 = ap (λ (p : List ℕ × List ℕ). length p.1) (sym e ∙ h) in omega arith

module _ (T : Meaning) (R : Says) where
  fault_not_sound : (s : State) (i : ℕ) (r : Round) (v : Verdict) → Fault T R s i r v → IsSound v → ⊥
  fault_not_sound s i r v (closed j _ e) h = with_number v _ i _ e h
  fault_not_sound s i r v (clash j k _ _ _ e) h = with_number v _ i _ e h
  fault_not_sound s i r v (missing j f _ _ _ _ e) h = with_number v _ i _ e h

  sound_plan : (rs : List Round) (s : State) (i : ℕ) (v : Verdict) → JudgedFrom T R s i rs v → IsSound v → PlanFrom T R s rs
  sound_plan [] s i v (goal f low e) h = absurd (with_number v _ f _ e h)
  sound_plan [] s i v (sound holds e) h = holds
  sound_plan (r ∷ rs) s i v (inl fault) h = absurd (fault_not_sound s i r v fault h)
  sound_plan (r ∷ rs) s i v (inr (ok, rest)) h = (ok, sound_plan rs (result T s r) (i + 1) v rest h)

  plan_sound : (rs : List Round) (s : State) (i : ℕ) (v : Verdict) → JudgedFrom T R s i rs v → PlanFrom T R s rs → IsSound v
  plan_sound [] s i v (goal f ((g, lacks), _) e) h = absurd (both_ways (s f) lacks (h f g))
  plan_sound [] s i v (sound holds e) h = e
  plan_sound (r ∷ rs) s i v (inl fault) (ok, h) = absurd (fault_not_allowed T R s i r v fault ok)
  plan_sound (r ∷ rs) s i v (inr (_, rest)) (ok, h) = plan_sound rs (result T s r) (i + 1) v rest h

  pub verdict_on : Admitted T → Lawful R → (n : ℕ) (sheet : List JobSet) (v : Verdict) → Judged T R (rounds_of T.m n sheet) v
      → VerdictOn T R (rounds_of T.m n sheet) v
  verdict_on ok law n sheet v judged =
      let rs : List Round = rounds_of T.m n sheet in
      let start : State = has T.start in
      record {
        first_fault = judged;
        sound_is_plan = (sound_plan rs start 0 v judged, plan_sound rs start 0 v judged);
        linear = λ h. plans_are_linear T R ok law rs (sound_plan rs start 0 v judged h);
        only = λ w other. one_verdict T R rs start 0 w v other judged;
        ordered = rounds_have_orders T.m rs (numbered T.m (take n sheet));
      }

-- a walk over the numbers below n and the places of the sheet side by side, which began as w and has given xs
module _ {n : ℕ} {sheet : List JobSet} {s w : Zip (Range ℕ) (Iter JobSet)} (room : n ≤ length sheet) (begins : s ≡ w)
    (numbers : zip_first w ≡ record { start = 0; end = n }) (places : iter_rest (zip_second w) ≡ sheet)
    (xs : List (ℕ × Bor JobSet)) (t u : Zip (Range ℕ) (Iter JobSet)) (came : Yields (zips nat_range_steps fronts) s xs t) where
  long : length (zip (range_with_len 0 n) sheet) ≡ n
  long = length-zip (range_with_len 0 n) sheet ∙ omega (arith, length-range_with_len 0 n)

  gives : YieldsList (zips nat_range_steps fronts) (λ p. (p.0, p.1.now)) s (zip (range_with_len 0 n) sheet)
  gives =
      YieldsList-from_zip (YieldsList-from_range 0 n n (ap (λ (z : Zip (Range ℕ) (Iter JobSet)). zip_first z) begins ∙ numbers) (omega arith))
      (YieldsList-from_slice sheet (ap (λ (z : Zip (Range ℕ) (Iter JobSet)). iter_rest (zip_second z)) begins ∙ places))

  -- the next number is that of the places passed, and the next place stands behind them
  pub next_place : {r : Option (ℕ × Bor JobSet)} {i : ℕ} {p : Bor JobSet} → r ≡ Some (i, p) → zips nat_range_steps fronts t r u
      → (length xs < n) × (i ≡ length xs) × (p.now ≡ get_or sheet (length xs) p.now)
  next_place {r = r} {i = i} {p = p} is step =
      let (lt, at) = YieldsList-turn gives xs t came r u (i, p) is step in
      let count = length-range_with_len 0 n in
      let inside : length xs < n = omega (arith, long) in
      let pair = at ∙ get_or-zip (range_with_len 0 n) sheet (length xs) (i, p.now) (omega arith) (omega arith) in
      let number : i ≡ get_or (range_with_len 0 n) (length xs) i = ap (λ (q : ℕ × JobSet). q.0) pair in
      (inside, omega (arith, get_or-range_with_len 0 n (length xs) i inside), ap (λ (q : ℕ × JobSet). q.1) pair)

  pub all_passed : {r : Option (ℕ × Bor JobSet)} → r ≡ None → zips nat_range_steps fronts t r u → length xs ≡ n
  all_passed {r = r} is step = (YieldsList-end gives xs t came r u is step).1 ∙ long

-- the verdict that the rounds from number i on give, from the state s, is the verdict on all
pub record Rest (T : Meaning) (R : Says) (n : ℕ) (sheet : List JobSet) (i : ℕ) (s : State) : Type 0 where
  pub judged : (v : Verdict) → JudgedFrom T R s i (drop i (rounds_of T.m n sheet)) v → Judged T R (rounds_of T.m n sheet) v

module _ {T : Meaning} {R : Says} {n : ℕ} {sheet : List JobSet} {i : ℕ} {s : State} (rest : Rest T R n sheet i s) (room : n ≤ length sheet) where
  -- the round of number j at the place p comes next
  module _ {j : ℕ} {p : JobSet} (next : (i < n) × (j ≡ i) × (p ≡ get_or sheet i p)) where
    is_next : drop i (rounds_of T.m n sheet) ≡ round_of T.m p ∷ drop (i + 1) (rounds_of T.m n sheet)
    is_next =
        rounds_next T.m n sheet room i p next.0
        ∙ ap (λ (q : JobSet). round_of T.m q ∷ drop (i + 1) (rounds_of T.m n sheet)) (sym next.2)

    pub fault_answered : Admitted T → Lawful R → {v : Verdict} → Fault T R s j (round_of T.m p) v → Answered T R sheet n (Ok v)
    fault_answered ok law {v = v} fault = (
      room,
      verdict_on T R ok law n sheet v
          (rest.judged v (subst (λ (rs : List Round). JudgedFrom T R s i rs v) (sym is_next)
          (inl (subst (λ (k : ℕ). Fault T R s k (round_of T.m p) v) next.1 fault)))),
    )

    pub rest_more : {k : ℕ} {s' : State} → k ≡ i + 1 → Allowed T R s (round_of T.m p) → s' ≡ result T s (round_of T.m p)
        → Rest T R n sheet k s'
    rest_more {s' = s'} is allowed becomes = record {
      judged = λ v h.
          rest.judged v (subst (λ (rs : List Round). JudgedFrom T R s i rs v) (sym is_next)
          (inr (
            allowed,
            subst (λ (x : State). JudgedFrom T R x (i + 1) (drop (i + 1) (rounds_of T.m n sheet)) v) becomes
                (subst (λ (l : ℕ). JudgedFrom T R s' l (drop l (rounds_of T.m n sheet)) v) is h),
          )));
    }

  pub end_answered : Admitted T → Lawful R → {v : Verdict} → i ≡ n → Ended T s v → Answered T R sheet n (Ok v)
  end_answered ok law {v = v} is ended = (
    room,
    verdict_on T R ok law n sheet v
        (rest.judged v (subst (λ (rs : List Round). JudgedFrom T R s i rs v)
        (sym (ap (λ (k : ℕ). drop k (rounds_of T.m n sheet)) is ∙ rounds_end T.m n sheet room)) ended)),
  )
