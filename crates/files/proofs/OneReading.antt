-- A sheet file has one first fault, and what reading it says of its answer is true of one answer only.
use Rattle.std.proofs.Common.{◌≡◌, ℕ, ◌+◌, Bool, false, List, [], ◌∷◌, length, map, set, Ok, Err, refl, sym, ◌∙◌, ap, ap₂, inl, inr, arith}
use mathlib.Core.Path.{fun_ext}
use Rattle.std.proofs.lemmas.List.{map-set}
use Rattle.sets.specs.declared.jobs.JobSet.{JobSet}
use Rattle.sets.specs.Jobs.{includes}
use Rattle.sets.specs.Search.{listed}
use Rattle.planning.specs.declared.book.Book.{Book}
use Rattle.planning.specs.Refusals.{told}
use Rattle.planning.specs.Adding.{free, Added, short as too_short, faulty as list_fault, full as no_place, appended}
use Rattle.files.specs.Records.{RD, body_at, place}
use Rattle.files.specs.SheetFiles.{RoundFault, not_due, jobs, full, SheetFileFault, FirstSheetFault, Refusing, short, faulty, AllAdded, OneReading}
use Rattle.files.proofs.Once.{Once, Tells, tells_once, DueTest, ListTest, once_by, first_once, due_once, clean_once}
use Rattle.files.proofs.SheetLaws.{one_list, refused_exactly}

-- a round record
module _ (m places r : ℕ) (file : List ℕ) (p : ℕ) where
  round_checks : (c : ℕ) → RoundFault m places r file p c → DueTest file p RD (ListTest 10 m (body_at file p) (Tells (free places r ≡ false) 11)) c
  round_checks c (not_due f) = inl f
  round_checks c (jobs due f) = inr (due, inl f)
  round_checks c (full due fine none e) = inr (due, inr (fine, (none, e)))

  round_fault_once : Once (RoundFault m places r file p)
  round_fault_once = once_by round_checks (due_once file p RD (clean_once 10 m (body_at file p) tells_once))

-- a file has one first fault
pub one_sheet_fault : (m places r : ℕ) (file : List ℕ) (c p c' p' : ℕ) → FirstSheetFault m places r file c p → FirstSheetFault m places r file c' p'
    → (c ≡ c') × (p ≡ p')
one_sheet_fault m places r file c p c' p' f g =
    let (same, numbers) =
    first_once (SheetFileFault m places r file) (λ i c d (_, x) (_, y). round_fault_once m places (r + i) file (place file i) c d x y)
    f.at g.at c c' f.fault g.fault f.none_before g.none_before in
    (numbers, f.place_is ∙ ap (place file) same ∙ sym g.place_is)

one_refusing : (m places r : ℕ) (file : List ℕ) (c p c' p' : ℕ) → Refusing m places r file c p → Refusing m places r file c' p'
    → (c ≡ c') × (p ≡ p')
one_refusing m places r file c p c' p' (short _ c_is p_is) (short _ c_is' p_is') = (c_is ∙ sym c_is', p_is ∙ sym p_is')
one_refusing m places r file c p c' p' (short lt _ _) (faulty le _) = absurd (omega arith)
one_refusing m places r file c p c' p' (faulty le _) (short lt _ _) = absurd (omega arith)
one_refusing m places r file c p c' p' (faulty _ f) (faulty _ g) = one_sheet_fault m places r file c p c' p' f g

-- adding a round leads to one book, and to one sheet as far as jobs go
added_round : (b : Book) (sh : List JobSet) (js : List ℕ) (b' : Book) (sh' : List JobSet) → Added b sh js (Ok tt) b' sh'
    → (b' ≡ record b { rounds = b.rounds + 1 }) × (map includes sh' ≡ set (map includes sh) b.rounds (listed js))
added_round b sh js b' sh' (too_short _ wrong _ _) = absurd wrong
added_round b sh js b' sh' (list_fault _ _ _ wrong _ _) = absurd wrong
added_round b sh js b' sh' (no_place _ _ _ wrong _ _) = absurd wrong
added_round b sh js b' sh' (appended _ _ _ at holds is book) =
    (book, ap (map includes) is ∙ map-set includes sh b.rounds at ∙ ap (set (map includes sh) b.rounds) (fun_ext holds))

-- so does adding rounds in order
one_adding : (rs : List (List ℕ)) (b a b' a' : Book) (sh ah sh' ah' : List JobSet) → b ≡ a → map includes sh ≡ map includes ah
    → AllAdded b sh rs b' sh' → AllAdded a ah rs a' ah' → (b' ≡ a') × (map includes sh' ≡ map includes ah')
one_adding [] b a b' a' sh ah sh' ah' same alike (is, is') (are, are') = (is ∙ same ∙ sym are, ap (map includes) is' ∙ alike ∙ sym (ap (map includes) are'))
one_adding (js ∷ rs) b a b' a' sh ah sh' ah' same alike (b₁, sh₁, add, all) (a₁, ah₁, add', all') =
    let (book, sheet) = added_round b sh js b₁ sh₁ add in
    let (book', sheet') = added_round a ah js a₁ ah₁ add' in
    let books : b₁ ≡ a₁ = book ∙ ap (λ (x : Book). record x { rounds = x.rounds + 1 }) same ∙ sym book' in
    let at : b.rounds ≡ a.rounds = ap (λ (x : Book). x.rounds) same in
    let sheets : map includes sh₁ ≡ map includes ah₁ =
    sheet ∙ ap₂ {C = List (ℕ → Bool)} (λ (xs : List (ℕ → Bool)) (i : ℕ). set xs i (listed js)) alike at ∙ sym sheet' in
    one_adding rs b₁ a₁ b' a' sh₁ ah₁ sh' ah' books sheets all all'

pub one_reading : OneReading
one_reading b b' b'' sh sh' sh'' file (Ok _) (Ok _) (rs, is, _, all) (rs', is', _, all') =
    let lists : rs ≡ rs' = one_list file rs rs' is is' in
    let (books, sheets) = one_adding rs b b b' b'' sh sh sh' sh'' refl refl all (rw (← lists) at all') in (tt, books, sheets)
one_reading b b' b'' sh sh' sh'' file (Ok _) (Err e) (rs, is, fit, _) (bad, _, _) =
    absurd (refused_exactly b sh file (told e).0 (told e).1 bad rs fit is)
one_reading b b' b'' sh sh' sh'' file (Err e) (Ok _) (bad, _, _) (rs, is, fit, _) =
    absurd (refused_exactly b sh file (told e).0 (told e).1 bad rs fit is)
one_reading b b' b'' sh sh' sh'' file (Err e) (Err e') (bad, book, sheet) (bad', book', sheet') =
    let (numbers, places) = one_refusing b.m (length sh) b.rounds file (told e).0 (told e).1 (told e').0 (told e').1 bad bad' in
    (ap₂ {C = ℕ × ℕ} (λ (c p : ℕ). (c, p)) numbers places, book ∙ sym book', ap (map includes) (sheet ∙ sym sheet'))
