-- What places hold, one by one and after reading.
use Rattle.std.proofs.Common.{◌≡◌, ℕ, ◌+◌, ◌-◌, ◌<◌, ◌≤◌, Bool, true, false, cond, ◌&&◌, eqb, List, [], ◌∷◌, ◌++◌, length, get_or, take, drop, replicate, nat_le, Some, sym, refl, ap, ◌∙◌, inl, inr, arith, length-drop, length-append, length-set, set}
use Rattle.std.proofs.Math.Seq.{take-append_seam, drop-append_seam}
use Rattle.std.specs.List.{list_all}
use Rattle.std.proofs.lemmas.List.{get_or_append_left, get_or-take, get_or-replicate, length-replicate, length-take-le, get_or-set_same, get_or-set_other, ext_get_or, get_or-drop}
use Rattle.std.proofs.lemmas.Option.{slice_get-get_or, get_or_from_slice_get}
use Rattle.std.specs.List.{slice_get}
use Rattle.std.proofs.lemmas.Bool.{and_from, cases_lt, cases_eq, le-leb, lt-ltb, le-ltb, eq-eqb, ne_eqb}
use Rattle.pages.specs.declared.name.NamePlace.{NamePlace}
use Rattle.pages.specs.Names.{Names, printable, IsName, name_in, place_of, held_name, name_at}
use Rattle.names.specs.NameFiles.{Entry, Listed, given}
use Rattle.names.specs.Reading.{Holding}
use Rattle.names.proofs.EntryLaws.{least_after, given_push, given_named, given_above, all_shown}

-- a place made of a name holds it
place_holds : (s : List ℕ) → IsName s → name_in (place_of s) ≡ s
place_holds s (le, h) =
    let whole : take (length s) (s ++ replicate (16 - length s) 0) ≡ s = take-append_seam s (replicate (16 - length s) 0) in
    let fine : (nat_le (length s) 16 && list_all printable (take (length s) (s ++ replicate (16 - length s) 0))) ≡ true =
    and_from _ _ (le-leb (length s) 16 le) (ap (list_all printable) whole ∙ all_shown s h) in
    ap (λ (b : Bool). cond b (take (length s) (s ++ replicate (16 - length s) 0)) []) fine ∙ whole

-- a place written among others
written_place : {X : Type 0} (xs : List X) (k j : ℕ) (x y z : X) → k < length xs → j < length xs
    → slice_get xs j ≡ Some y → cond (eqb k j) x y ≡ z → slice_get (set xs k x) j ≡ Some z
written_place xs k j x y z lk lj held is =
    elim (cases_eq k j) [
      | inl same ↦
          let e : eqb k j ≡ true = eq-eqb k j same in
          let z_is : x ≡ z = (rw e at is) in
          slice_get-get_or (set xs k x) j x (rw length-set lj) ∙ ap Some (rw same (get_or-set_same xs j x x lj) ∙ z_is)
      | inr other ↦
          let e : eqb k j ≡ false = ne_eqb k j other in
          let z_is : y ≡ z = (rw e at is) in
          slice_get-get_or (set xs k x) j x (rw length-set lj)
          ∙ ap Some (get_or-set_other xs k j x x (λ e. other (sym e)) ∙ get_or_from_slice_get xs j y x held ∙ z_is)
    ]

place_either : (b : Bool) (s g : List ℕ) → cond b (place_of s) (place_of g) ≡ place_of (cond b s g)
place_either true s g = refl
place_either false s g = refl

-- the places after one entry more
pub place_more : (m : ℕ) (es : List Entry) (n : ℕ) (s : List ℕ) (q : NamePlace) (xs : List NamePlace) (i : ℕ)
    → Listed m 0 es → least_after 0 es ≤ n → n < length xs → q ≡ place_of s
    → i < length xs → slice_get xs i ≡ Some (place_of (given es i))
    → slice_get (set xs n q) i ≡ Some (place_of (given (es ++ ((n, s) ∷ [])) i))
place_more m es n s q xs i fit le ln is li held =
    written_place xs n i q (place_of (given es i)) (place_of (given (es ++ ((n, s) ∷ [])) i)) ln li held
    (ap (λ (x : NamePlace). cond (eqb n i) x (place_of (given es i))) is ∙ place_either (eqb n i) s (given es i)
    ∙ ap place_of (sym (given_push m 0 es n s i fit le)))

-- places that are all alike
pub filled : (x q : NamePlace) → q ≡ x → (n j : ℕ) → j < n → slice_get (replicate n q) j ≡ Some x
filled x q is n j lt =
    slice_get-get_or (replicate n q) j q (rw length-replicate lt) ∙ ap Some (get_or-replicate n j q q lt ∙ is)

-- the first places are those that were read
pub holding : (m : ℕ) (es : List Entry) (read places new : List NamePlace) → m ≤ length read → m ≤ length places → Listed m 0 es
    → ((j : ℕ) → j < length read → slice_get read j ≡ Some (place_of (given es j))) → new ≡ take m read
    → Holding m (given es) places (new ++ drop m places)
holding m es read places new lr lp fit held is = record {
  written = there;
  kept = ap (λ (k : ℕ). drop k (new ++ drop m places)) (sym size) ∙ drop-append_seam new (drop m places);
  same_length = length-append new (drop m places) ∙ (let d = length-drop m places in let long = size in omega arith);
  named = λ j.
      elim (cases_lt j m) [
        | inl lt ↦
            ap (λ (b : Bool). cond b (name_at (new ++ drop m places) j) []) (lt-ltb j m lt)
            ∙ ap held_name (there j lt) ∙ place_holds (given es j) (given_named m 0 es j fit)
        | inr ge ↦
            ap (λ (b : Bool). cond b (name_at (new ++ drop m places) j) []) (le-ltb j m ge)
            ∙ sym (given_above m 0 es j fit ge)
      ];
}
  where
    size : length new ≡ m
    size = ap length is ∙ length-take-le m read lr

    there : (j : ℕ) → j < m → slice_get (new ++ drop m places) j ≡ Some (place_of (given es j))
    there j lt =
        let x = place_of (given es j) in
        let whole = length-append new (drop m places) in
        let long = size in
        slice_get-get_or (new ++ drop m places) j x (omega arith)
        ∙ ap Some (get_or_append_left new (drop m places) x j (omega arith)
        ∙ ap (λ (xs : List NamePlace). get_or xs j x) is ∙ get_or-take m read j x lt
        ∙ get_or_from_slice_get read j x x (held j (omega arith)))

-- places that hold the same names in front, and are the same behind them
pub same_places : (m : ℕ) (N : Names) (places xs ys : List NamePlace) → Holding m N places xs → Holding m N places ys → xs ≡ ys
same_places m N places xs ys h k = ext_get_or d xs ys (h.same_length ∙ sym k.same_length) (λ j _. at j)
  where
    d : NamePlace
    d = place_of []

    behind_m : (zs : List NamePlace) (j : ℕ) → m ≤ j → get_or (drop m zs) (j - m) d ≡ get_or zs j d
    behind_m zs j le = let e : m + (j - m) ≡ j = omega arith in get_or-drop m zs (j - m) d ∙ ap (λ (i : ℕ). get_or zs i d) e

    at : (j : ℕ) → get_or xs j d ≡ get_or ys j d
    at j =
        elim (cases_lt j m) [
          | inl lt ↦
              get_or_from_slice_get xs j (place_of (N j)) d (h.written j lt)
              ∙ sym (get_or_from_slice_get ys j (place_of (N j)) d (k.written j lt))
          | inr ge ↦
              sym (behind_m xs j ge) ∙ ap (λ (zs : List NamePlace). get_or zs (j - m) d) (h.kept ∙ sym k.kept)
              ∙ behind_m ys j ge
        ]
