-- Bytes that stand in a file, and the records among them.
use Rattle.std.proofs.Common.{◌≡◌, ℕ, ◌+◌, ◌≤◌, List, [], ◌∷◌, ◌++◌, length, take, drop, get_or, Ok, Err, sym, refl, ap, ap₂, ◌∙◌, inl, inr, arith, take-append-drop, length-drop, append_assoc, length-append}
use Rattle.std.proofs.Math.Seq.{drop-append_seam, take-append_seam}
use Rattle.std.proofs.lemmas.List.{append-nil, drop-drop, drop_all, drop_more, get_or-drop, length-take-le}
use Rattle.std.specs.Borrow.{Bor}
use Rattle.planning.specs.declared.refusal.Refusal.{Refusal}
use Rattle.files.specs.declared.record.Record.{Record}
use Rattle.files.specs.declared.record.Placed.{Placed}
use Rattle.files.specs.Records.{Mark, record_bytes, size_at, body_at, behind, Due, NotDue, RefusedAt, Found, Stands, told}
use Rattle.files.specs.Records.NotDue.{truncated, other_mark}

-- what stands one behind the other
pub stands_both : (file : List ℕ) (p q r : ℕ) (xs ys : List ℕ) → Stands file p xs q → Stands file q ys r → Stands file p (xs ++ ys) r
stands_both file p q r xs ys first second = record {
  end = simp length-append (let e = first.end in let f = second.end in omega arith);
  within = second.within;
  bytes = first.bytes ∙ ap (λ (zs : List ℕ). xs ++ zs) second.bytes ∙ sym (append_assoc xs ys (drop r file));
}

-- and the parts of what stands
pub stands_parts : (file : List ℕ) (p r : ℕ) (xs ys : List ℕ) → Stands file p (xs ++ ys) r
    → Stands file p xs (p + length xs) × Stands file (p + length xs) ys r
stands_parts file p r xs ys s =
    let l = length-append xs ys in
    let end = s.end in
    let within = s.within in
    let whole : drop p file ≡ xs ++ (ys ++ drop r file) = s.bytes ∙ append_assoc xs ys (drop r file) in
    let rest : drop (p + length xs) file ≡ ys ++ drop r file =
    sym (drop-drop (length xs) p file) ∙ ap (drop (length xs)) whole ∙ drop-append_seam xs (ys ++ drop r file) in (
      record { end = refl; within = omega arith; bytes = whole ∙ ap (λ (zs : List ℕ). xs ++ zs) (sym rest) },
      record { end = omega arith; within = within; bytes = rest },
    )

-- the rest of a file stands in it
pub stands_rest : (file : List ℕ) (p : ℕ) (bs : List ℕ) → p ≤ length file → drop p file ≡ bs → Stands file p bs (length file)
stands_rest file p bs le is = record {
  end = let l = rw length-drop at (ap length is) in omega (arith, l);
  within = omega arith;
  bytes = is ∙ sym (append-nil bs) ∙ ap (λ (xs : List ℕ). bs ++ xs) (sym (drop_all (length file) file (omega arith)));
}

-- what stands up to the last byte is the rest
pub rest_stands : (file : List ℕ) (p : ℕ) (bs : List ℕ) → Stands file p bs (length file) → drop p file ≡ bs
rest_stands file p bs s = s.bytes ∙ ap (λ (xs : List ℕ). bs ++ xs) (drop_all (length file) file (omega arith)) ∙ append-nil bs

-- a record's three bytes in front of its body
front : (file : List ℕ) (p : ℕ) → p + 3 ≤ length file
    → drop p file ≡ get_or file p 0 ∷ (get_or file (p + 1) 0 ∷ (get_or file (p + 2) 0 ∷ drop (p + 3) file))
front file p le =
    let a = drop_more file p 0 (omega arith) in
    let b = drop_more file (p + 1) 0 (omega arith) in
    let c = drop_more file (p + 2) 0 (omega arith) in
    grind arith

-- a record that is due stands where it begins
pub record_stands : (file : List ℕ) (p : ℕ) (k : Mark) → Due file p k → Stands file p (record_bytes k (body_at file p)) (behind file p)
record_stands file p k (whole, is) =
    let size : length (body_at file p) ≡ size_at file p = length-take-le (size_at file p) (drop (p + 3) file) (simp length-drop (omega arith)) in
    let here = front file p (omega arith) in
    let split = take-append-drop (size_at file p) (drop (p + 3) file) in
    let rest = drop-drop (size_at file p) (p + 3) file in
    let first = ap (λ (m : Mark). m.0) is in
    let second = ap (λ (m : Mark). m.1) is in
    record { end = omega arith; within = whole; bytes = cc }

-- what a record that stands in a file is
module _ (file : List ℕ) (p : ℕ) (k : Mark) (b : List ℕ) (q : ℕ) (stands : Stands file p (record_bytes k b) q) where
  -- its bytes, counted from its first
  pub byte_is : (i : ℕ) → get_or file (p + i) 0 ≡ get_or (record_bytes k b ++ drop q file) i 0
  byte_is i = sym (get_or-drop p file i 0) ∙ ap (λ (xs : List ℕ). get_or xs i 0) stands.bytes

  -- the byte behind it
  pub stands_behind : behind file p ≡ q
  stands_behind = let size = byte_is 2 in let end = stands.end in omega arith

  -- it is due where it stands
  pub stands_due : Due file p k
  stands_due =
      let here = stands_behind in let end = stands.end in let within = stands.within in
      let first : p + 0 ≡ p = omega arith in
      let mark = byte_is 0 in
      (omega arith, ap₂ {C = Mark} (λ (x y : ℕ). (x, y)) (rw first at mark) (byte_is 1))

  -- its body
  pub stands_body : body_at file p ≡ b
  stands_body =
      ap (λ (n : ℕ). take n (drop (p + 3) file)) (byte_is 2)
      ∙ ap (take (length b)) (sym (drop-drop 3 p file) ∙ ap (drop 3) stands.bytes)
      ∙ take-append_seam b (drop q file)

-- a record, and what stands behind it
pub stands_record : (file : List ℕ) (p r : ℕ) (k : Mark) (b ys : List ℕ) → Stands file p (record_bytes k b ++ ys) r
    → Stands file p (record_bytes k b) (behind file p) × Stands file (behind file p) ys r
stands_record file p r k b ys s =
    let (first, rest) = stands_parts file p r (record_bytes k b) ys s in
    let end = stands_behind file p k b _ first in (rw (← end) at first, rw (← end) at rest)

-- the same, where the file ends behind it
pub record_first : (file : List ℕ) (p : ℕ) (k : Mark) (b ys : List ℕ) → drop p file ≡ record_bytes k b ++ ys
    → Stands file p (record_bytes k b) (behind file p) × (drop (behind file p) file ≡ ys)
record_first file p k b ys e =
    let count = simp (length-drop, length-append) at (ap length e) in
    let (first, rest) = stands_record file p (length file) k b ys (stands_rest file p (record_bytes k b ++ ys) (omega (arith, count)) e) in
    (first, rest_stands file (behind file p) ys rest)

-- a record that is due is not one that isn't
pub due_sound : (file : List ℕ) (p : ℕ) (k : Mark) (c : ℕ) → Due file p k → NotDue file p k c → ⊥
due_sound file p k c (whole, is) (truncated off _) = off whole
due_sound file p k c (whole, is) (other_mark _ other _) = other is

-- no record was found, where one of mark k is due, as each v b is
pub not_found : (file : List ℕ) (p : ℕ) (k : Mark) (v : Bor (List ℕ) → Record) (e : Refusal) → ((b : Bor (List ℕ)) → (told (v b)).0 ≡ k)
    → Found file p (Err e) → RefusedAt p (NotDue file p k) e
not_found file p k v e is (inl (at, not_whole)) = (truncated not_whole (ap (λ (x : Mark). x.0) at), ap (λ (x : Mark). x.1) at)
not_found file p k v e is (inr (at, whole, none)) =
    let r : Record = v (record { ref_ptr = (0, 0); now = [] }) in
    (other_mark whole (λ here. none r (is _ ∙ sym here)) (ap (λ (x : Mark). x.0) at), ap (λ (x : Mark). x.1) at)

-- a record was found, of mark k and with body b
module _ (file : List ℕ) (p : ℕ) (q : Placed) (found : Found file p (Ok q)) (k : Mark) (b : List ℕ) (is : told q.record ≡ (k, b)) where
  pub found_due : Due file p k
  found_due = (found.0, ap (λ (x : Mark × List ℕ). x.0) (sym found.1 ∙ is))

  pub found_body : b ≡ body_at file p
  found_body = ap (λ (x : Mark × List ℕ). x.1) (sym is ∙ found.1)

  pub found_stands : Stands file p (record_bytes k b) q.end
  found_stands = let s = record_stands file p k found_due in rw (← found_body, ← found.3) at s
