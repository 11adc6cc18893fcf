-- A names file has one first fault, and what reading it says of its answer is true of one answer only.
use Rattle.std.proofs.Common.{◌≡◌, ℕ, ◌<◌, List, length, Ok, Err, sym, ◌∙◌, ap, ap₂, inl, inr, arith}
use Rattle.planning.specs.Refusals.{told}
use Rattle.files.specs.Records.{NJ, body_at, place}
use Rattle.files.proofs.Once.{Once, Tells, Test, tells_once, test_once, DueTest, once_by, first_once, due_once}
use Rattle.names.specs.NameFiles.{given}
use Rattle.names.specs.NameFaults.{IsBody, number_at, Above, RecordFault, not_due, bad_name, no_such_job, not_rising, NameFault, FirstNameFault, Refusing, short, faulty}
use Rattle.names.specs.Reading.{OneNamesReading}
use Rattle.names.proofs.NameLaws.{one_list, refused_exactly}
use Rattle.names.proofs.PlaceLaws.{same_places}

-- a name record
module _ (m : ℕ) (file : List ℕ) (i p : ℕ) where
  record_checks : (c : ℕ) → RecordFault m file i p c
      → DueTest file p NJ (Test (IsBody (body_at file p)) 15 (Test (number_at file p < m) 10
      (Tells (¬ Above file i (number_at file p)) 6))) c
  record_checks c (not_due f) = inl f
  record_checks c (bad_name due bad e) = inr (due, inl (bad, e))
  record_checks c (no_such_job due body le e) = inr (due, inr (body, inl (λ lt. omega arith, e)))
  record_checks c (not_rising due body lt below e) = inr (due, inr (body, inr (lt, (below, e))))

  record_fault_once : Once (RecordFault m file i p)
  record_fault_once = once_by record_checks (due_once file p NJ (test_once (test_once tells_once)))

-- a file has one first fault
pub one_names_fault : (m : ℕ) (file : List ℕ) (c p c' p' : ℕ) → FirstNameFault m file c p → FirstNameFault m file c' p'
    → (c ≡ c') × (p ≡ p')
one_names_fault m file c p c' p' f g =
    let (same, numbers) =
    first_once (NameFault m file) (λ i c d (_, x) (_, y). record_fault_once m file i (place file i) c d x y)
    f.at g.at c c' f.fault g.fault f.none_before g.none_before in
    (numbers, f.place_is ∙ ap (place file) same ∙ sym g.place_is)

one_refusing : (m places : ℕ) (file : List ℕ) (c p c' p' : ℕ) → Refusing m places file c p → Refusing m places file c' p'
    → (c ≡ c') × (p ≡ p')
one_refusing m places file c p c' p' (short _ c_is p_is) (short _ c_is' p_is') = (c_is ∙ sym c_is', p_is ∙ sym p_is')
one_refusing m places file c p c' p' (short lt _ _) (faulty le _) = absurd (omega arith)
one_refusing m places file c p c' p' (faulty le _) (short lt _ _) = absurd (omega arith)
one_refusing m places file c p c' p' (faulty _ f) (faulty _ g) = one_names_fault m file c p c' p' f g

pub one_reading : OneNamesReading
one_reading m file places places' places'' (Ok _) (Ok _) (es, is, _, _, held) (es', is', _, _, held') =
    let lists : es ≡ es' = one_list file es es' is is' in
    (tt, same_places m (given es) places places' places'' held (rw (← lists) at held'))
one_reading m file places places' places'' (Ok _) (Err e) (es, is, fit, le, _) (bad, _) =
    absurd (refused_exactly m (length places) file (told e).0 (told e).1 bad es fit le is)
one_reading m file places places' places'' (Err e) (Ok _) (bad, _) (es, is, fit, le, _) =
    absurd (refused_exactly m (length places) file (told e).0 (told e).1 bad es fit le is)
one_reading m file places places' places'' (Err e) (Err e') (bad, kept) (bad', kept') =
    let (numbers, at) = one_refusing m (length places) file (told e).0 (told e).1 (told e').0 (told e').1 bad bad' in
    (ap₂ {C = ℕ × ℕ} (λ (c p : ℕ). (c, p)) numbers at, kept ∙ sym kept')
