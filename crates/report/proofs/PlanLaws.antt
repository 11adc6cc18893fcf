-- A sheet file that was read is a list of addings.
use Rattle.std.proofs.Common.{◌≡◌, ℕ, suc, ◌+◌, ◌<◌, ◌≤◌, min, true, List, [], ◌∷◌, ◌++◌, map, length, Ok, Err, Result, IsOkAnd, refl, ◌∙◌, inl, inr, ap, append_assoc, length-append, add-zero, arith}
use Rattle.std.specs.List.{All}
use Rattle.std.proofs.lemmas.List.Elements.{All-head, All-tail}
use Rattle.std.proofs.lemmas.Bool.{and_from, cond-true, cases_lt, ltb-true}
use Rattle.std.proofs.lemmas.List.{append-nil}
use Rattle.sets.specs.declared.jobs.JobSet.{JobSet}
use Rattle.sets.specs.Search.{listed}
use Rattle.strips.specs.Tasks.{Meaning, Admitted}
use Rattle.strips.specs.Rules.{Says, apart}
use Rattle.strips.specs.Rounds.{Round}
use Rattle.layers.proofs.PairLaws.{pair_count_few}
use Rattle.reach.specs.Tables.{Table}
use Rattle.planning.specs.declared.book.Book.{Book}
use Rattle.planning.specs.declared.refusal.Refusal.{Refusal}
use Rattle.planning.specs.declared.report.Report.{Report}
use Rattle.planning.specs.Refusals.{told}
use Rattle.planning.specs.Lists.{clean}
use Rattle.planning.specs.Adding.{free}
use Rattle.planning.specs.Calls.{Opened}
use Rattle.planning.specs.Runs.{World, Call, add, Run, opened, called, Story, sheet_of}
use Rattle.files.specs.SheetFiles.{RoundsFit, AllAdded, Refusing, short, faulty, Read}
use Rattle.report.specs.Answers.{Answer, AnswersRuns}
use Rattle.report.specs.Files.{PlanRefused, PlanRead, PlanAnswered}

-- the addings of these lists, in order, behind the calls cs; the latest call is the first of a list
pub adding : List (List ℕ) → List Call → List Call
adding [] cs = cs
adding (js ∷ lists) cs = adding lists (add js ∷ cs)

module _ (T : Meaning) (R : Says) (w₀ : World) (tb : Table) where
  run_added : (lists : List (List ℕ)) (cs : List Call) (b : Book) (sh : List JobSet) (b' : Book) (sh' : List JobSet)
      → Run T R w₀ cs (record { book = b; table = tb; sheet = sh }) → AllAdded b sh lists b' sh'
      → Run T R w₀ (adding lists cs) (record { book = b'; table = tb; sheet = sh' })
  unfolding adding
  run_added [] cs b sh b' sh' run (bs, ss) = rw (bs, ss) run
  run_added (js ∷ lists) cs b sh b' sh' run (b₁, sh₁, added, more) =
      run_added lists (add js ∷ cs) b₁ sh₁ b' sh' (called (add js) _ run (Ok tt, added, refl)) more

module _ (m k : ℕ) where
  sheet_added : (lists : List (List ℕ)) (cs : List Call) (r : ℕ) → length (sheet_of m k cs) ≡ r → All (λ js. clean m js ≡ true) lists
      → ((i : ℕ) → i < length lists → free k (r + i) ≡ true) → sheet_of m k (adding lists cs) ≡ sheet_of m k cs ++ map listed lists
  unfolding adding
  sheet_added [] cs r len fine room = simp append-nil
  sheet_added (js ∷ lists) cs r len fine room =
      let ok : clean m js ≡ true = All-head (λ x. clean m x ≡ true) js lists fine in
      let first : free k (r + 0) ≡ true = room 0 (omega arith) in
      let place : free k (length (sheet_of m k cs)) ≡ true = rw (len, ← add-zero r) first in
      let one : sheet_of m k (add js ∷ cs) ≡ sheet_of m k cs ++ (listed js ∷ []) = cond-true _ _ _ (and_from _ _ ok place) in
      let longer : length (sheet_of m k (add js ∷ cs)) ≡ suc r = (let e = ap length one in omega (arith, length-append (sheet_of m k cs) (listed js ∷ []))) in
      let more = sheet_added lists (add js ∷ cs) (suc r) longer (All-tail (λ x. clean m x ≡ true) js lists fine)
      (λ i lt. let h : free k (r + suc i) ≡ true = room (suc i) (omega arith) in let e : suc r + i ≡ r + suc i = omega arith in rw e h) in
      more ∙ ap (λ (rs : List Round). rs ++ map listed lists) one ∙ append_assoc (sheet_of m k cs) (listed js ∷ []) (map listed lists)

module _ (T : Meaning) (pf : List ℕ) (small : length pf ≤ 60000) (tb : Table) (b : Book) (tb' : Table) (opened_is : Opened T tb (Ok b) tb')
    (sh : List JobSet) (all : length sh ≡ 500) where
  jobs_are : b.m ≡ T.m
  jobs_are = ap (λ (x : Book). x.m) opened_is.2

  none_used : b.rounds ≡ 0
  none_used = ap (λ (x : Book). x.rounds) opened_is.2

  -- where reading is refused
  pub reading_refused : (e : Refusal) → Refusing b.m (length sh) b.rounds pf (told e).0 (told e).1 → PlanRefused T pf e
  reading_refused e why = go (rw (jobs_are, all, none_used) at why)
    where
      go : Refusing T.m 500 0 pf (told e).0 (told e).1 → PlanRefused T pf e
      go (short lt _ _) = absurd (omega arith)
      go (faulty _ first) = inr (small, first)

  -- where it is accepted
  pub reading_led : (b' : Book) (sh' : List JobSet) → Read b sh pf (Ok tt) b' sh' → PlanRead T pf (Ok b') tb' sh'
  reading_led b' sh' (lists, is, fit, added) =
      let σ : Story T apart = record {
        table = tb;
        first = record { book = b; table = tb'; sheet = sh };
        opening = opened_is;
        calls = adding lists [];
        last = record { book = b'; table = tb'; sheet = sh' };
        run = run_added T apart (record { book = b; table = tb'; sheet = sh }) tb' lists [] b sh b' sh' opened added;
      } in
      let rounds : sheet_of T.m (length sh) (adding lists []) ≡ map listed lists =
      (rw all (sheet_added T.m 500 lists [] 0 refl fits.lists fits.room)) in
      (map listed lists, (small, (lists, is, few, fits.lists, refl)), (σ, refl, rounds))
    where
      fits : RoundsFit T.m 500 0 lists
      fits = rw (jobs_are, all, none_used) at fit

      few : length lists ≤ 500
      few = elim (cases_lt 500 (length lists)) [
        | inl lt ↦ absurd (let full : 0 + 500 < min 500 500 = ltb-true _ _ (fits.room 500 lt) in omega arith)
        | inr le ↦ le
      ]

-- what is read is answered
pub plan_answered : (T : Meaning) (pf : List ℕ) (b : Book) (tb : Table) (sh : List JobSet) → PlanRead T pf (Ok b) tb sh
    → (r : Result Report Refusal) → AnswersRuns T apart b tb sh r → PlanAnswered T pf r
plan_answered T pf b tb sh (rs, read, (σ, here, rounds)) r answers = of_result r (rw rounds at (answers σ here))
  where
    of_result : (r : Result Report Refusal) → IsOkAnd r (Answer T apart rs) → PlanAnswered T pf r
    of_result (Ok rep) answer = (rs, read, answer)
    of_result (Err e) answer = absurd answer

-- opening is not refused where there are entries for 128 facts
pub opening_accepted : (T : Meaning) (ok : Admitted T) (tb : Table) (e : Refusal) (tb' : Table) → length tb ≡ 8256 → Opened T tb (Err e) tb' → ⊥
opening_accepted T ok tb e tb' room (lt, _, _) = let few = pair_count_few T.n ok.few_facts in omega arith
