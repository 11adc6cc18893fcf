-- The body of a job record, and the row that it is read into.
use Rattle.std.proofs.Common.{◌≡◌, ℕ, ◌+◌, List, ◌∷◌, ◌++◌, length, take, drop, get_or, Ok, sym, refl, ap, ◌∙◌, arith, take-append-drop, length-append, length-drop}
use Rattle.std.proofs.lemmas.List.{drop-drop, drop_more, drop_at, take_all, take_at, length-take-le}
use Rattle.sets.specs.declared.facts.FactSet.{FactSet}
use Rattle.strips.specs.declared.row.Row.{Row}
use Rattle.files.specs.declared.job.JobBody.{JobBody}
use Rattle.files.specs.Reading.{Split, RowRead}
use Rattle.files.specs.Sets.{facts_of, ListRead}
use Rattle.files.specs.TaskFiles.{job_body, RowLimits}
use Rattle.files.specs.TaskFaults.{Sized, needs_of, adds_of, deletes_of, BodyFault}
use Rattle.files.specs.TaskFaults.BodyFault.{wrong_length, needs, adds, deletes}
use Rattle.files.proofs.FactLists.{clean_below, clean_sound, facts_clean, same_facts}

-- the bytes of a job's body: its zone, the lengths of three lists, and the lists
abbrev parts : ℕ → List ℕ → List ℕ → List ℕ → List ℕ
parts z xs ys zs = z ∷ (length xs ∷ (length ys ∷ (length zs ∷ (xs ++ (ys ++ zs)))))

-- a body of the right length is its parts
body_is : (b : List ℕ) → Sized b → b ≡ parts (get_or b 0 0) (needs_of b) (adds_of b) (deletes_of b)
body_is b (four, size) =
    let zone : b ≡ get_or b 0 0 ∷ drop 1 b = drop_more b 0 0 (omega arith) in
    let first : drop 1 b ≡ get_or b 1 0 ∷ drop 2 b = drop_more b 1 0 (omega arith) in
    let second : drop 2 b ≡ get_or b 2 0 ∷ drop 3 b = drop_more b 2 0 (omega arith) in
    let third : drop 3 b ≡ get_or b 3 0 ∷ drop 4 b = drop_more b 3 0 (omega arith) in
    let needs_size : length (needs_of b) ≡ get_or b 1 0 = length-take-le (get_or b 1 0) (drop 4 b) (simp length-drop (omega arith)) in
    let adds_size : length (adds_of b) ≡ get_or b 2 0 = length-take-le (get_or b 2 0) (drop (4 + get_or b 1 0) b) (simp length-drop (omega arith)) in
    let behind : drop (4 + get_or b 1 0 + get_or b 2 0) b ≡ deletes_of b = sym (take_all (get_or b 3 0) _ (simp length-drop (omega arith))) in
    let deletes_size : length (deletes_of b) ≡ get_or b 3 0 = ap length (sym behind) ∙ simp length-drop (omega arith) in
    let more : drop (4 + get_or b 1 0) b ≡ adds_of b ++ deletes_of b =
    sym (take-append-drop (get_or b 2 0) (drop (4 + get_or b 1 0) b))
    ∙ ap (λ (l : List ℕ). adds_of b ++ l) (drop-drop (get_or b 2 0) (4 + get_or b 1 0) b ∙ behind) in
    let lists : drop 4 b ≡ needs_of b ++ (adds_of b ++ deletes_of b) =
    sym (take-append-drop (get_or b 1 0) (drop 4 b)) ∙ ap (λ (l : List ℕ). needs_of b ++ l) (drop-drop (get_or b 1 0) 4 b ∙ more) in cc

-- what the parts of a body were read into
module _ (n at : ℕ) (b : List ℕ) (q : JobBody) (needed added deleted : FactSet) (parted : Split b at (Ok q))
    (first : ListRead n q.needs.now at (Ok needed)) (second : ListRead n q.adds.now at (Ok added)) (third : ListRead n q.deletes.now at (Ok deleted)) where
  -- the sets are the three lists of the body
  needs_are : facts_of needed ≡ needs_of b
  needs_are = first.1 ∙ parted.2

  adds_are : facts_of added ≡ adds_of b
  adds_are = second.1 ∙ parted.3

  deletes_are : facts_of deleted ≡ deletes_of b
  deletes_are = third.1 ∙ parted.4

  -- a row
  pub row_read : RowRead n b at (Ok (record { zone = q.zone; needs = needed; adds = added; deletes = deleted }))
  row_read =
      let limits : RowLimits n (record { zone = q.zone; needs = needed; adds = added; deletes = deleted }) = record {
        needs = clean_below n q.needs.now needed first.0 first.1;
        adds = clean_below n q.adds.now added second.0 second.1;
        deletes = clean_below n q.deletes.now deleted third.0 third.1;
        plain = (first.2, second.2, third.2);
      } in
      (limits, rw (parted.1, needs_are, adds_are, deletes_are) (body_is b parted.0))

-- the parts of the body of a row
module _ (r : Row) where
  abbrev behind_needs : List ℕ
  behind_needs = facts_of r.adds ++ facts_of r.deletes

  row_sized : Sized (job_body r)
  row_sized =
      let e = length-append (facts_of r.needs) behind_needs in
      let f = length-append (facts_of r.adds) (facts_of r.deletes) in (omega arith, omega arith)

  row_needs : needs_of (job_body r) ≡ facts_of r.needs
  row_needs = take_at (facts_of r.needs) behind_needs (length (facts_of r.needs)) refl

  drop_needs : drop (4 + length (facts_of r.needs)) (job_body r) ≡ behind_needs
  drop_needs = sym (drop-drop (length (facts_of r.needs)) 4 (job_body r)) ∙ drop_at (facts_of r.needs) behind_needs (length (facts_of r.needs)) refl

  row_adds : adds_of (job_body r) ≡ facts_of r.adds
  row_adds = ap (take (length (facts_of r.adds))) drop_needs ∙ take_at (facts_of r.adds) (facts_of r.deletes) (length (facts_of r.adds)) refl

  row_deletes : deletes_of (job_body r) ≡ facts_of r.deletes
  row_deletes =
      ap (take (length (facts_of r.deletes)))
      (sym (drop-drop (length (facts_of r.adds)) (4 + length (facts_of r.needs)) (job_body r))
      ∙ ap (drop (length (facts_of r.adds))) drop_needs ∙ drop_at (facts_of r.adds) (facts_of r.deletes) (length (facts_of r.adds)) refl)
      ∙ take_all (length (facts_of r.deletes)) (facts_of r.deletes) (omega arith)

-- the body of a row within the limits is not at fault
pub row_sound : (n : ℕ) (r : Row) (c : ℕ) → RowLimits n r → BodyFault n (job_body r) c → ⊥
row_sound n r c limits (wrong_length off _) = off (row_sized r)
row_sound n r c limits (needs _ fault) = clean_sound 5 n (facts_of r.needs) c (facts_clean n r.needs limits.needs) (rw (row_needs r) at fault)
row_sound n r c limits (adds _ _ fault) = clean_sound 5 n (facts_of r.adds) c (facts_clean n r.adds limits.adds) (rw (row_adds r) at fault)
row_sound n r c limits (deletes _ _ _ fault) =
    clean_sound 5 n (facts_of r.deletes) c (facts_clean n r.deletes limits.deletes) (rw (row_deletes r) at fault)

-- the body of a row determines it
pub same_row : (n m : ℕ) (r q : Row) → RowLimits n r → RowLimits m q → job_body r ≡ job_body q → r ≡ q
same_row n m r q rl ql e =
    let zones : r.zone ≡ q.zone = cc in
    let needs_same = same_facts r.needs q.needs rl.plain.0 ql.plain.0 (sym (row_needs r) ∙ ap needs_of e ∙ row_needs q) in
    let adds_same = same_facts r.adds q.adds rl.plain.1 ql.plain.1 (sym (row_adds r) ∙ ap adds_of e ∙ row_adds q) in
    let deletes_same = same_facts r.deletes q.deletes rl.plain.2 ql.plain.2 (sym (row_deletes r) ∙ ap deletes_of e ∙ row_deletes q) in
    ap (λ (x : ℕ). record r { zone = x }) zones
    ∙ ap (λ (x : FactSet). record r { zone = q.zone; needs = x }) needs_same
    ∙ ap (λ (x : FactSet). record r { zone = q.zone; needs = q.needs; adds = x }) adds_same
    ∙ ap (λ (x : FactSet). record q { deletes = x }) deletes_same
