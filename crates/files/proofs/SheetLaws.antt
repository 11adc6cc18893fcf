-- The check of a sheet file, the adding of its rounds, that a file is refused only if it has to be, and that it is the
-- bytes of one list of rounds.
use Rattle.std.proofs.Common.{◌≡◌, ℕ, zero, suc, ◌+◌, ◌<◌, ◌≤◌, min, true, false, List, [], ◌∷◌, ◌++◌, length, get_or, drop, Ok, Err, Result, IsOk, sym, refl, ap, ap₂, ◌∙◌, inl, inr, below_more, add-one, one-add, add-zero, add_assoc, arith, length-drop, length-set}
use Rattle.std.proofs.lemmas.List.{append-nil, append_assoc, drop_all, drop-drop, get_or-drop, length_push}
use Rattle.std.proofs.lemmas.List.Concat.{flat_map-append}
use Rattle.std.proofs.lemmas.List.Elements.{All-push, All-head, All-tail}
use Rattle.std.proofs.lemmas.Bool.{both_ways, cases_lt, ltb-true}
use Rattle.sets.specs.declared.jobs.JobSet.{JobSet}
use Rattle.planning.specs.declared.book.Book.{Book}
use Rattle.planning.specs.declared.refusal.Refusal.{Refusal}
use Rattle.planning.specs.Lists.{at_fault, clean}
use Rattle.planning.specs.Adding.{free, Added, short as too_short, faulty as list_fault, full as no_place, appended}
use Rattle.files.specs.Records.{RD, record_bytes, body_at, behind, place, Due, NotDue, Stands}
use Rattle.files.specs.SheetFiles.{sheet_bytes, RoundFault, not_due, jobs, full, SheetFileFault, Refusing, short, faulty, RoundsFit, AllAdded, Read, OneList}
use Rattle.files.proofs.FactLists.{clean_at, clean_sound}
use Rattle.files.proofs.RecordLaws.{due_sound, record_stands, record_first, stands_due, stands_body}

-- a round that can be added is not at fault
fits_no_fault : (m places r : ℕ) (file : List ℕ) (p c : ℕ) → Due file p RD → clean m (body_at file p) ≡ true → free places r ≡ true
    → RoundFault m places r file p c → ⊥
fits_no_fault m places r file p c due fine room (not_due out) = due_sound file p RD c due out
fits_no_fault m places r file p c due fine room (jobs _ fault) = clean_sound 10 m (body_at file p) c fine fault
fits_no_fault m places r file p c due fine room (full _ _ none _) = both_ways (free places r) none room

-- the bytes of one round more
bytes_pushed : (rs : List (List ℕ)) (js rest : List ℕ) → sheet_bytes rs ++ (record_bytes RD js ++ rest) ≡ sheet_bytes (rs ++ (js ∷ [])) ++ rest
bytes_pushed rs js rest = simp (flat_map-append, append-nil, append_assoc)

-- the rounds of a file up to byte p, all of which can be added, with r rounds in use behind them
pub record Passed (b : Book) (sh : List JobSet) (file : List ℕ) (p r : ℕ) : Type 0 where
  pub rounds : List (List ℕ)
  pub in_use : r ≡ b.rounds + length rounds
  pub place_is : p ≡ place file (length rounds)
  pub bytes : file ≡ sheet_bytes rounds ++ drop p file
  pub fit : RoundsFit b.m (length sh) b.rounds rounds
  pub sound : (i : ℕ) → i < length rounds → (c : ℕ) → SheetFileFault b.m (length sh) b.rounds file i c → ⊥

module _ {b : Book} {sh : List JobSet} {file : List ℕ} {p r : ℕ} (passed : Passed b sh file p r) where
  pub passed_more : Due file p RD → clean b.m (body_at file p) ≡ true → free (length sh) r ≡ true → Passed b sh file (behind file p) (r + 1)
  passed_more due fine room = record {
    rounds = rounds;
    in_use = rw length_push (let e = passed.in_use in omega arith);
    place_is = rw (length_push, add-one) (ap (behind file) passed.place_is);
    bytes = passed.bytes ∙ ap (λ (bs : List ℕ). sheet_bytes passed.rounds ++ bs) (record_stands file p RD due).bytes ∙ bytes_pushed passed.rounds (body_at file p) (drop (behind file p) file);
    fit = record {
      places_for = passed.fit.places_for;
      lists = All-push (λ js. clean b.m js ≡ true) passed.rounds (body_at file p) passed.fit.lists fine;
      room = rw length_push (below_more _ _ passed.fit.room (rw passed.in_use at room));
    };
    sound = rw length_push (below_more _ _ passed.sound
        (λ c fault. fits_no_fault b.m (length sh) r file p c due fine room (rw (← passed.in_use, ← passed.place_is) at fault.1)));
  }
    where
      rounds : List (List ℕ)
      rounds = passed.rounds ++ (body_at file p ∷ [])

  -- where the next record is at fault, it is the first that is
  pub first_fault : (c q : ℕ) → p < length file → RoundFault b.m (length sh) r file p c → q ≡ p
      → Refusing b.m (length sh) b.rounds file c q
  first_fault c q lt fault is =
      faulty passed.fit.places_for record {
        at = length passed.rounds;
        fault = rw (← passed.place_is, ← passed.in_use) (lt, fault);
        place_is = is ∙ passed.place_is;
        none_before = passed.sound;
      }

-- no bytes are those of no rounds
sheet_none : (rs : List (List ℕ)) → sheet_bytes rs ≡ [] → rs ≡ []
sheet_none [] e = refl
sheet_none (js ∷ rs) e = cc

-- where bytes are left, they are those of one round more
next_round : (file : List ℕ) (p : ℕ) (rs : List (List ℕ)) → drop p file ≡ sheet_bytes rs → p < length file
    → (js : List ℕ) × (others : List (List ℕ)) × (rs ≡ js ∷ others) × Stands file p (record_bytes RD js) (behind file p)
    × (drop (behind file p) file ≡ sheet_bytes others)
next_round file p [] e lt = absurd (let left = rw length-drop at (ap length e) in omega arith)
next_round file p (js ∷ others) e lt = let (first, rest) = record_first file p RD js (sheet_bytes others) e in (js, others, refl, first, rest)

-- the rounds of a file from record i on are those whose bytes begin where it does
from_record : (file : List ℕ) (rs : List (List ℕ)) → file ≡ sheet_bytes rs → (i : ℕ) → drop (place file i) file ≡ sheet_bytes (drop i rs)
from_record file rs e zero = e
from_record file rs e (suc i) =
    elim (cases_lt (place file i) (length file)) [
      | inl lt ↦
          let (js, others, is, stands, follows) = next_round file (place file i) (drop i rs) (from_record file rs e i) lt in
          follows ∙ ap sheet_bytes (sym (rest others (ap (drop 1) is)))
      | inr le ↦
          let none = sheet_none (drop i rs) (sym (from_record file rs e i) ∙ drop_all (place file i) file le) in
          drop_all (behind file (place file i)) file (omega arith) ∙ ap sheet_bytes (sym (rest [] (ap (drop 1) none)))
    ]
  where
    rest : (others : List (List ℕ)) → drop 1 (drop i rs) ≡ others → drop (suc i) rs ≡ others
    rest others is = rw (← add-one) (sym (drop-drop 1 i rs) ∙ is)

-- no record of rounds that can all be added is at fault
fit_sound : (b : Book) (sh : List JobSet) (file : List ℕ) (rs : List (List ℕ)) → RoundsFit b.m (length sh) b.rounds rs → file ≡ sheet_bytes rs
    → (i c : ℕ) → SheetFileFault b.m (length sh) b.rounds file i c → ⊥
fit_sound b sh file rs fit e i c (lt, fault) =
    let (js, others, is, stands, follows) = next_round file (place file i) (drop i rs) (from_record file rs e i) lt in
    let left = rw length-drop at (ap length is) in
    let within : i < length rs = omega (arith, left) in
    let same : get_or rs i [] ≡ js = grind (arith, get_or-drop i rs 0 [], is) in
    fits_no_fault b.m (length sh) (b.rounds + i) file (place file i) c (stands_due file _ RD js _ stands) (rw (stands_body file _ RD js _ stands, ← same) (fit.lists i [] within))
    (fit.room i within) fault

-- a file is refused only if it has to be
pub refused_exactly : (b : Book) (sh : List JobSet) (file : List ℕ) (c p : ℕ) → Refusing b.m (length sh) b.rounds file c p → (rs : List (List ℕ)) → RoundsFit b.m (length sh) b.rounds rs
    → file ≡ sheet_bytes rs → ⊥
refused_exactly b sh file c p (short lt _ _) rs fit e = let le = fit.places_for in omega arith
refused_exactly b sh file c p (faulty _ first) rs fit e = fit_sound b sh file rs fit e first.at c first.fault

-- the rest of a file is the bytes of one list of rounds
same_rounds : (file : List ℕ) (p : ℕ) (rs qs : List (List ℕ)) → drop p file ≡ sheet_bytes rs → drop p file ≡ sheet_bytes qs → rs ≡ qs
same_rounds file p [] qs e f = sym (sheet_none qs (sym f ∙ e))
same_rounds file p (r ∷ rs) [] e f = sheet_none (r ∷ rs) (sym e ∙ f)
same_rounds file p (r ∷ rs) (q ∷ qs) e f =
    let (first, rest) = record_first file p RD r (sheet_bytes rs) e in
    let (first', rest') = record_first file p RD q (sheet_bytes qs) f in
    let round : r ≡ q = sym (stands_body file p RD r _ first) ∙ stands_body file p RD q _ first' in
    ap₂ {C = List (List ℕ)} (λ (x : List ℕ) (xs : List (List ℕ)). x ∷ xs) round (same_rounds file (behind file p) rs qs rest rest')

pub one_list : OneList
one_list file rs qs e f = same_rounds file 0 rs qs e f

-- the rounds of a checked file that are not yet added: from byte p on, to book b₁ and sheet sh₁
pub record ToAdd (b : Book) (sh : List JobSet) (file : List ℕ) (p : ℕ) (b₁ : Book) (sh₁ : List JobSet) : Type 0 where
  pub rounds : List (List ℕ)
  pub bytes : file ≡ sheet_bytes rounds
  pub fit : RoundsFit b.m (length sh) b.rounds rounds
  pub rest : List (List ℕ)
  pub rest_bytes : drop p file ≡ sheet_bytes rest
  pub rest_fit : RoundsFit b₁.m (length sh₁) b₁.rounds rest
  pub added : (b₂ : Book) (sh₂ : List JobSet) → AllAdded b₁ sh₁ rest b₂ sh₂ → AllAdded b sh rounds b₂ sh₂

-- a round that can be added is, and then those behind it can be
one_added : (b : Book) (sh : List JobSet) (js : List ℕ) (rs : List (List ℕ)) (r : Result Unit Refusal) (b' : Book) (sh' : List JobSet)
    → RoundsFit b.m (length sh) b.rounds (js ∷ rs) → Added b sh js r b' sh' → IsOk r × Added b sh js (Ok tt) b' sh' × RoundsFit b'.m (length sh') b'.rounds rs
one_added b sh js rs r b' sh' fit (too_short lt _ _ _) = absurd (let le = fit.places_for in omega arith)
one_added b sh js rs r b' sh' fit (list_fault _ i first _ _ _) =
    absurd (both_ways (at_fault b.m js i) (clean_at b.m js i (All-head (λ js. clean b.m js ≡ true) js rs fit.lists) first.0.0) first.0.1)
one_added b sh js rs r b' sh' fit (no_place _ _ none _ _ _) =
    absurd (both_ways (free (length sh) b.rounds) none (rw add-zero at (fit.room 0 (omega arith))))
one_added b sh js rs r b' sh' fit (appended fine room ok set' is sheet book) = (
  ok,
  appended fine room refl set' is sheet book,
  rw (sheet, book) record {
    places_for = let lt = ltb-true b.rounds (min (length sh) 500) room in rw length-set (omega arith);
    lists = All-tail (λ js. clean b.m js ≡ true) js rs fit.lists;
    room = λ i lt. rw (length-set, add_assoc, one-add) (fit.room (suc i) (omega arith));
  },
)

module _ {b : Book} {sh : List JobSet} {file : List ℕ} {p : ℕ} {b₁ : Book} {sh₁ : List JobSet} (todo : ToAdd b sh file p b₁ sh₁) where
  pub none_to_add : length file ≤ p → Read b sh file (Ok tt) b₁ sh₁
  none_to_add le =
      let none = sheet_none todo.rest (sym todo.rest_bytes ∙ drop_all p file le) in
      (todo.rounds, todo.bytes, todo.fit, todo.added b₁ sh₁ (rw none (refl, refl)))

  -- the next record is a round's, and can be added
  pub next_read : (c : ℕ) → p < length file → NotDue file p RD c → ⊥
  next_read c lt out =
      let (js, others, is, stands, follows) = next_round file p todo.rest todo.rest_bytes lt in due_sound file p RD c (stands_due file _ RD js _ stands) out

  -- the next round is added, and one less is left
  pub next_added : (r : Result Unit Refusal) (b₂ : Book) (sh₂ : List JobSet) → p < length file → Added b₁ sh₁ (body_at file p) r b₂ sh₂
      → IsOk r × ToAdd b sh file (behind file p) b₂ sh₂
  next_added r b₂ sh₂ lt step =
      let (js, others, is, stands, follows) = next_round file p todo.rest todo.rest_bytes lt in
      let (ok, adding, fit) =
      one_added b₁ sh₁ js others r b₂ sh₂ (rw is at todo.rest_fit) (rw (stands_body file _ RD js _ stands) at step) in (
        ok,
        record {
          rounds = todo.rounds;
          bytes = todo.bytes;
          fit = todo.fit;
          rest = others;
          rest_bytes = follows;
          rest_fit = fit;
          added = λ b₃ sh₃ all. todo.added b₃ sh₃ (rw is (b₂, sh₂, adding, all));
        },
      )

  pub next_taken : (e : Refusal) (b₂ : Book) (sh₂ : List JobSet) → p < length file → Added b₁ sh₁ (body_at file p) (Err e) b₂ sh₂ → ⊥
  next_taken e b₂ sh₂ lt step = let (ok, _) = next_added (Err e) b₂ sh₂ lt step in both_ways false refl ok
