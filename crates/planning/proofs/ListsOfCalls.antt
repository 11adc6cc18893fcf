-- The theorem on lists of calls.
use Rattle.std.proofs.Common.{◌≡◌, ℕ, min, List, [], ◌∷◌, length, Ok, Err, Result, sym, refl, ◌∙◌, inl, inr, arith}
use Rattle.std.specs.Cmp.{both_ways as same_tests}
use Rattle.std.proofs.lemmas.Bool.{both_ways}
use Rattle.sets.specs.declared.jobs.JobSet.{JobSet}
use Rattle.sets.proofs.SearchLaws.{lowest_one}
use Rattle.strips.specs.Tasks.{Meaning, Admitted}
use Rattle.strips.specs.Rules.{Says, Lawful}
use Rattle.layers.specs.Bounds.{Settles}
use Rattle.layers.proofs.PairLaws.{entry_number_onto}
use Rattle.layers.proofs.LayerLaws.{layer_up, goal_up}
use Rattle.layers.proofs.Settling.{layers_settle}
use Rattle.reach.specs.Tables.{Table, entry}
use Rattle.planning.specs.declared.book.Book.{Book}
use Rattle.planning.specs.declared.refusal.Refusal.{Refusal}
use Rattle.planning.specs.declared.report.Distance.{Distance}
use Rattle.planning.specs.declared.report.Report.{Report}
use Rattle.planning.specs.Reports.{told, number, none, at_least}
use Rattle.planning.specs.Calls.{Asked, Judging}
use Rattle.planning.specs.Runs.{World, Call, grow, add, drop, judge, issue, Step, Run, opened, called, Story, growings, sheet_of}
use Rattle.planning.specs.Main.{ToldAfter, EntryAfter, Worked, Alike, Stories, ListsOfCalls, HoldsOfRuns, DistanceOfRuns}
use Rattle.planning.proofs.Invariant.{Inv, fits, length_is, grown, added, dropped, first_inv}
use Rattle.planning.proofs.DistanceLaws.{same_distance}
use Rattle.planning.proofs.Judgements.{asked_well, judged_well}

module _ (T : Meaning) (R : Says) (ok : Admitted T) (law : Lawful R) (L : ℕ) (last : Settles T R L) (places : ℕ) where
  abbrev Kept : List Call → World → Type 0
  Kept cs w = Inv T R ok L last places (growings cs) (sheet_of T.m places cs) w.book w.table w.sheet

  stepped : (cs : List Call) (w : World) (c : Call) (w' : World) → Kept cs w → Step T R w c w' → Kept (c ∷ cs) w'
  stepped cs w grow w' inv (r, s, e) = rw e (grown inv r w'.book w'.table s)
  stepped cs w (add js) w' inv (r, s, e) = rw e (added inv js r w'.book w'.sheet s)
  stepped cs w drop w' inv (r, s, e, f) = rw (e, f) (dropped inv r w'.book s)
  stepped cs w judge w' inv (r, s, e) = rw e inv
  stepped cs w issue w' inv (Ok i, (_, is), b, e, f) = rw (b, is, e, f) inv
  stepped cs w issue w' inv (Err e', (_, is), b, e, f) = rw (b, is, e, f) inv

  module _ (w₀ : World) (start : Kept [] w₀) where
    run_kept : (cs : List Call) (w : World) → Run T R w₀ cs w → Kept cs w
    run_kept _ _ opened = start
    run_kept _ _ (called {cs} {w} c w' r s) = stepped cs w c w' (run_kept cs w r) s

  worked : (cs : List Call) (w : World) → Kept cs w → Worked T R L places cs w
  worked cs w inv =
      record {
        fits = fits inv;
        layer = inv.layer;
        settled = (
          (λ s. elim inv.settled [ inl (_, lt) ↦ lt | inr (n, _) ↦ absurd (both_ways _ n s) ]),
          (λ lt. elim inv.settled [ inl (y, _) ↦ y | inr (_, le) ↦ absurd (omega arith) ]),
        );
        entries = λ p q lp lq. rw inv.layer at (inv.entries p q lp lq);
        places = inv.all_places;
        rounds = sym (length_is inv);
        sheet = inv.sheet;
        asked = asked_well law inv;
        judged = judged_well law inv;
      }

module _ (T : Meaning) (R : Says) where
  entry_once : (t p q e e' : ℕ) → EntryAfter T R t p q e → EntryAfter T R t p q e' → e ≡ e'
  entry_once t p q e e' (inl (first, _)) (inl (first', _)) = lowest_one _ e e' first first'
  entry_once t p q e e' (inl ((h, l), le)) (inr (out, _)) = absurd (out (layer_up T R e t p q le h))
  entry_once t p q e e' (inr (out, _)) (inl ((h, l), le)) = absurd (out (layer_up T R e' t p q le h))
  entry_once t p q e e' (inr (_, a)) (inr (_, b)) = a ∙ sym b

  told_once : (l g : ℕ) (d d' : Distance) → ToldAfter T R l g d → ToldAfter T R l g d' → told d ≡ told d'
  told_once l g d d' (number x e (is, _)) (number x' e' (is', _)) = let same = lowest_one _ x x' is is' in cc
  told_once l g d d' (number x _ ((h, low), le)) (none _ (out, lt)) = absurd (out (goal_up T R x l (omega arith) h))
  told_once l g d d' (number x _ ((h, low), le)) (at_least k _ (out, gl, e)) = absurd (out (goal_up T R x g (omega arith) h))
  told_once l g d d' (none _ (out, lt)) (number x _ ((h, low), le)) = absurd (out (goal_up T R x l (omega arith) h))
  told_once l g d d' (none e _) (none e' _) = e ∙ sym e'
  told_once l g d d' (none _ (_, lt)) (at_least k _ (_, gl, _)) = absurd (omega arith)
  told_once l g d d' (at_least k _ (out, gl, e)) (number x _ ((h, low), le)) = absurd (out (goal_up T R x g (omega arith) h))
  told_once l g d d' (at_least k _ (_, gl, _)) (none _ (_, lt)) = absurd (omega arith)
  told_once l g d d' (at_least k e (_, _, is)) (at_least k' e' (_, _, is')) = cc

  told_by : {l k : ℕ} {cs : List Call} {w : World} → Worked T R l k cs w → (rep : Report)
      → Judging T R w.book w.table w.sheet (Ok rep) → ToldAfter T R l (growings cs) rep.distance
  told_by h rep s =
      let (rep', e, j) = h.judged (Ok rep) s in
      let same : rep' ≡ rep = cc in
      rw same at j.distance.exact

  alike : {l k k' : ℕ} {cs cs' : List Call} {w w' : World} → Worked T R l k cs w → Worked T R l k' cs' w'
      → growings cs ≡ growings cs' → Alike T R w w'
  alike {l} {cs = cs} {w = w} {w' = w'} h h' e =
      record {
        layer = cc;
        settled = same_tests _ _
            (λ s. h'.settled.1 (let lt = h.settled.0 s in omega arith))
            (λ s. h.settled.1 (let lt = h'.settled.0 s in omega arith));
        table = λ i lt.
            let (p, q, lp, lq, is) = entry_number_onto T.n i lt in
            let one = entry_once (min (growings cs) l) p q (entry w.table p q) (entry w'.table p q) (h.entries p q lp lq)
            (rw (← e) at (h'.entries p q lp lq)) in
            rw is at one;
        distance = λ rep rep' s s'.
            same_distance rep.distance rep'.distance
            (told_once l (growings cs) rep.distance rep'.distance (told_by h rep s) (rw (← e) at (told_by h' rep' s')));
      }

module _ (T : Meaning) (R : Says) (ok : Admitted T) (law : Lawful R) where
  worked_story : (σ : Story T R) → Worked T R (layers_settle T R ok).0 (length σ.first.sheet) σ.calls σ.last
  worked_story σ =
      let (L, last) = layers_settle T R ok in
      let places = length σ.first.sheet in
      worked T R ok law L last places σ.calls σ.last
      (run_kept T R ok law L last places σ.first
      (first_inv T R ok L last places σ.table σ.first.book σ.first.table σ.first.sheet σ.opening refl)
      σ.calls σ.last σ.run)

  pub stories : Stories T R
  stories =
      record {
        last_layer = (layers_settle T R ok).0;
        settles = (layers_settle T R ok).1;
        worked = worked_story;
        alike = λ σ τ e. alike T R (worked_story σ) (worked_story τ) e;
      }

  -- an answer of judging, where the list of calls has led to this book, table and sheet
  pub holds_of_runs : (b : Book) (tb : Table) (sh : List JobSet) (r : Result Report Refusal) → Judging T R b tb sh r → HoldsOfRuns T R b tb sh r
  holds_of_runs b tb sh r told =
      record {
        stories = stories;
        answer = λ σ here. (stories.worked σ).judged r (rw here told);
      }

-- an answer of asking for the distance, where the list of calls has led to this book and table
pub distance_of_runs : (T : Meaning) → Admitted T → (b : Book) (tb : Table) (r : Result Distance Refusal) → Asked T b tb r → DistanceOfRuns T b tb r
distance_of_runs T ok b tb r told R law σ book table =
    let all = stories T R ok law in
    (all.last_layer, all.settles, (all.worked σ).asked r (rw (book, table) told))

pub lists_of_calls : ListsOfCalls
lists_of_calls = stories
