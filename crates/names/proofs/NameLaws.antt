-- The records of a names file, and that it is the bytes of one list of entries.
use Rattle.std.proofs.Common.{◌≡◌, ℕ, zero, suc, ◌<◌, ◌≤◌, List, [], ◌∷◌, ◌++◌, length, get_or, drop, sym, refl, ap, ap₂, ◌∙◌, inl, inr, add-one, below_more, arith, length-drop, ◌⊎◌, subst}
use Rattle.std.proofs.lemmas.List.{append-nil, append_assoc, drop_all, drop-drop, length_push}
use Rattle.std.proofs.lemmas.List.Concat.{flat_map-append}
use Rattle.std.proofs.lemmas.Bool.{cases_lt}
use Rattle.files.specs.Records.{NJ, record_bytes, body_at, behind, place, Due, NotDue, Stands}
use Rattle.files.proofs.RecordLaws.{due_sound, record_stands, record_first, stands_due, stands_body, byte_is}
use Rattle.names.specs.NameFiles.{Entry, entry_body, names_bytes, Listable, Listed, NamesFit, OneNaming}
use Rattle.names.specs.NameFaults.{IsBody, number_at, Above, RecordFault, not_due, bad_name, no_such_job, not_rising, NameFault, FirstNameFault, Refusing, short, faulty}
use Rattle.names.proofs.EntryLaws.{least_after, listed_push, least_push}

-- the least number that record i may have
abbrev pub LeastAt : List ℕ → ℕ → ℕ → Type 0
LeastAt file zero k = k ≡ 0
LeastAt file (suc i) k = k ≡ suc (number_at file (place file i))

above_least : (file : List ℕ) (i k j : ℕ) → LeastAt file i k → k ≤ j → Above file i j
above_least file zero k j is le = tt
above_least file (suc i) k j is le = omega arith

pub not_above : (file : List ℕ) (i k j : ℕ) → LeastAt file i k → j < k → Above file i j → ⊥
not_above file zero k j is lt h = omega arith
not_above file (suc i) k j is lt h = omega arith

-- a record that may be read is not at fault
no_fault : (m : ℕ) (file : List ℕ) (i p c : ℕ) → Due file p NJ → IsBody (body_at file p) → number_at file p < m
    → Above file i (number_at file p) → RecordFault m file i p c → ⊥
no_fault m file i p c due body lt above (not_due out) = due_sound file p NJ c due out
no_fault m file i p c due body lt above (bad_name _ bad _) = bad body
no_fault m file i p c due body lt above (no_such_job _ _ le _) = omega arith
no_fault m file i p c due body lt above (not_rising _ _ _ below _) = below above

-- the records of a file up to byte p, which are those of the entries and may all be read, the next with a number from k up
pub record Passed (m : ℕ) (file : List ℕ) (p k : ℕ) (entries : List Entry) : Type 0 where
  pub place_is : p ≡ place file (length entries)
  pub bytes : file ≡ names_bytes entries ++ drop p file
  pub fit : Listed m 0 entries
  pub least : k ≡ least_after 0 entries
  pub least_at : LeastAt file (length entries) k
  pub sound : (i : ℕ) → i < length entries → (c : ℕ) → NameFault m file i c → ⊥

-- the job number of a record that stands in the file
number_is : (file : List ℕ) (p q j : ℕ) (s : List ℕ) → Stands file p (record_bytes NJ (j ∷ s)) q → number_at file p ≡ j
number_is file p q j s stands = byte_is file p NJ (j ∷ s) q stands 3

-- the bytes of one entry more
bytes_pushed : (es : List Entry) (e : Entry) (rest : List ℕ)
    → names_bytes es ++ (record_bytes NJ (entry_body e) ++ rest) ≡ names_bytes (es ++ (e ∷ [])) ++ rest
bytes_pushed es e rest = simp (flat_map-append, append-nil, append_assoc)

module _ {m : ℕ} {file : List ℕ} {p k : ℕ} {es : List Entry} (passed : Passed m file p k es) where
  pub passed_more : (j : ℕ) (s : List ℕ) → Due file p NJ → body_at file p ≡ j ∷ s → Listable s → k ≤ j → j < m
      → Passed m file (behind file p) (suc j) (es ++ ((j, s) ∷ []))
  passed_more j s due is h le lt = record {
    place_is = rw (length_push, add-one) (ap (behind file) passed.place_is);
    bytes = passed.bytes ∙ ap (λ (bs : List ℕ). names_bytes es ++ bs) stands.bytes
        ∙ bytes_pushed es (j, s) (drop (behind file p) file);
    fit = listed_push m 0 es j s passed.fit (rw (← passed.least) le) lt h;
    least = sym (least_push 0 es j s);
    least_at = rw (length_push, add-one) (ap suc (sym (rw (← passed.place_is) job)));
    sound = rw length_push (below_more _ _ passed.sound
        (λ c fault. no_fault m file (length es) p c due (subst (λ (b : List ℕ). IsBody b) (sym is) h) (rw job lt)
        (above_least file (length es) k (number_at file p) passed.least_at (rw job le)) (rw (← passed.place_is) at fault.1)));
  }
    where
      stands : Stands file p (record_bytes NJ (j ∷ s)) (behind file p)
      stands = rw is at (record_stands file p NJ due)

      job : number_at file p ≡ j
      job = number_is file p (behind file p) j s stands

  -- where the next record is at fault, it is the first that is
  pub first_fault : (c q : ℕ) → p < length file → RecordFault m file (length es) p c → q ≡ p → FirstNameFault m file c q
  first_fault c q lt fault is = record {
    at = length es;
    fault = rw (← passed.place_is) (lt, fault);
    place_is = is ∙ passed.place_is;
    none_before = passed.sound;
  }

-- no bytes are those of no entries
names_none : (es : List Entry) → names_bytes es ≡ [] → es ≡ []
names_none [] e = refl
names_none (x ∷ es) e = cc

-- where bytes are left, they are those of one entry more
next_entry : (file : List ℕ) (p : ℕ) (es : List Entry) → drop p file ≡ names_bytes es → p < length file
    → (x : Entry) × (others : List Entry) × (es ≡ x ∷ others) × Stands file p (record_bytes NJ (entry_body x)) (behind file p)
    × (drop (behind file p) file ≡ names_bytes others)
next_entry file p [] e lt = absurd (let left = rw length-drop at (ap length e) in omega arith)
next_entry file p (x ∷ others) e lt =
    let (first, rest) = record_first file p NJ (entry_body x) (names_bytes others) e in (x, others, refl, first, rest)

rest_of : (i : ℕ) (es others : List Entry) → drop 1 (drop i es) ≡ others → drop (suc i) es ≡ others
rest_of i es others is = rw (← add-one) (sym (drop-drop 1 i es) ∙ is)

-- the entries of a file from record i on are those whose bytes begin where it does
from_record : (file : List ℕ) (es : List Entry) → file ≡ names_bytes es → (i : ℕ)
    → drop (place file i) file ≡ names_bytes (drop i es)
from_record file es e zero = e
from_record file es e (suc i) =
    elim (cases_lt (place file i) (length file)) [
      | inl lt ↦
          let (x, others, is, stands, follows) = next_entry file (place file i) (drop i es) (from_record file es e i) lt in
          follows ∙ ap names_bytes (sym (rest_of i es others (ap (drop 1) is)))
      | inr le ↦
          let none = names_none (drop i es) (sym (from_record file es e i) ∙ drop_all (place file i) file le) in
          drop_all (behind file (place file i)) file (omega arith) ∙ ap names_bytes (sym (rest_of i es [] (ap (drop 1) none)))
    ]

-- and their numbers go on from that of the record before
listed_from : (m : ℕ) (file : List ℕ) (es : List Entry) → file ≡ names_bytes es → NamesFit m es → (i : ℕ)
    → place file i < length file → (k : ℕ) × LeastAt file i k × Listed m k (drop i es)
listed_from m file es e fit zero lt = (0, refl, fit)
listed_from m file es e fit (suc i) lt =
    let before : place file i < length file = omega arith in
    let (x, others, is, stands, follows) = next_entry file (place file i) (drop i es) (from_record file es e i) before in
    let (k, least, listed) = listed_from m file es e fit i before in
    let (a, b, c, l) = rw is at listed in
    let next : drop (suc i) es ≡ others = rest_of i es others (ap (drop 1) is) in
    (suc x.0, ap suc (sym (number_is file (place file i) _ x.0 x.1 stands)), rw next l)

-- no record of entries that may be read is at fault
fit_sound : (m : ℕ) (file : List ℕ) (es : List Entry) → NamesFit m es → file ≡ names_bytes es
    → (i c : ℕ) → NameFault m file i c → ⊥
fit_sound m file es fit e i c (lt, fault) =
    let (x, others, is, stands, follows) = next_entry file (place file i) (drop i es) (from_record file es e i) lt in
    let (k, least, listed) = listed_from m file es e fit i lt in
    let (a, b, h, l) = rw is at listed in
    let job = number_is file (place file i) _ x.0 x.1 stands in
    let body = stands_body file (place file i) NJ (entry_body x) _ stands in
    let due = stands_due file (place file i) NJ (entry_body x) _ stands in
    no_fault m file i (place file i) c due (subst (λ (b : List ℕ). IsBody b) (sym body) h) (rw job b)
    (above_least file i k (number_at file (place file i)) least (rw job a)) fault

-- so a file that is the bytes of such entries has no first fault
pub fit_not_faulty : (m : ℕ) (file : List ℕ) (c p : ℕ) (es : List Entry) → NamesFit m es → file ≡ names_bytes es
    → FirstNameFault m file c p → ⊥
fit_not_faulty m file c p es fit e first = fit_sound m file es fit e first.at c first.fault

-- a file is refused only if it has to be
pub refused_exactly : (m places : ℕ) (file : List ℕ) (c p : ℕ) → Refusing m places file c p
    → (es : List Entry) → NamesFit m es → m ≤ places → file ≡ names_bytes es → ⊥
refused_exactly m places file c p (short lt _ _) es fit le e = omega arith
refused_exactly m places file c p (faulty _ first) es fit le e = fit_not_faulty m file c p es fit e first

-- the rest of a file is the bytes of one list of entries
same_entries : (file : List ℕ) (p : ℕ) (es qs : List Entry) → drop p file ≡ names_bytes es
    → drop p file ≡ names_bytes qs → es ≡ qs
same_entries file p [] qs e f = sym (names_none qs (sym f ∙ e))
same_entries file p (x ∷ es) [] e f = names_none (x ∷ es) (sym e ∙ f)
same_entries file p (x ∷ es) (y ∷ qs) e f =
    let (first, rest) = record_first file p NJ (entry_body x) (names_bytes es) e in
    let (first', rest') = record_first file p NJ (entry_body y) (names_bytes qs) f in
    let body : entry_body x ≡ entry_body y =
    sym (stands_body file p NJ (entry_body x) _ first) ∙ stands_body file p NJ (entry_body y) _ first' in
    let entry : x ≡ y =
    ap₂ {C = Entry} (λ (j : ℕ) (s : List ℕ). (j, s)) (ap (λ (b : List ℕ). get_or b 0 0) body) (ap (drop 1) body) in
    ap₂ {C = List Entry} (λ (z : Entry) (zs : List Entry). z ∷ zs) entry (same_entries file (behind file p) es qs rest rest')

-- a file is the bytes of at most one list of entries
pub one_list : OneNaming
one_list file es qs e f = same_entries file 0 es qs e f

-- what a file without records has behind it
pub none_passed : (m : ℕ) (file : List ℕ) → Passed m file 0 0 []
none_passed m file = record {
  place_is = refl;
  bytes = refl;
  fit = tt;
  least = refl;
  least_at = refl;
  sound = λ i lt. absurd (omega arith);
}

-- what a name record at fault is told as
pub faulty_record : (m : ℕ) (file : List ℕ) (i p c : ℕ)
    → NotDue file p NJ c ⊎ (Due file p NJ × (IsBody (body_at file p) → ⊥) × (c ≡ 15)) → RecordFault m file i p c
faulty_record m file i p c (inl out) = not_due out
faulty_record m file i p c (inr (due, bad, is)) = bad_name due bad is

pub job_of_body : (file : List ℕ) (p j : ℕ) (s : List ℕ) → Due file p NJ → body_at file p ≡ j ∷ s → number_at file p ≡ j
job_of_body file p j s due is = number_is file p (behind file p) j s (rw is at (record_stands file p NJ due))
