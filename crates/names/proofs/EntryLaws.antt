-- Lists of entries, what they give, and the bodies of their records.
use Rattle.std.proofs.Common.{◌≡◌, ℕ, suc, ◌-◌, ◌<◌, ◌≤◌, true, false, cond, eqb, List, [], ◌∷◌, ◌++◌, length, get_or, take, drop, sym, refl, ap, ◌∙◌, inl, inr, arith, length-drop, subst}
use Rattle.std.specs.List.{AllByRecursion, list_all}
use Rattle.std.proofs.lemmas.List.{take_all, drop_more}
use Rattle.std.proofs.lemmas.Bool.{and_from, both_ways, cases_eq, le-leb, eq-eqb, ne_eqb}
use Rattle.pages.specs.Namings.{all_printable}
use Rattle.pages.specs.Names.{Printable, printable, IsName}
use Rattle.names.specs.NameFiles.{Entry, Listable, Listed, given}
use Rattle.names.specs.NameFaults.{IsBody}

-- the least number that an entry behind these may have
abbrev pub least_after : ℕ → List Entry → ℕ
least_after k [] = k
least_after k (e ∷ es) = least_after (suc e.0) es

-- one entry more
pub listed_push : (m k : ℕ) (es : List Entry) (j : ℕ) (s : List ℕ) → Listed m k es → least_after k es ≤ j → j < m → Listable s
    → Listed m k (es ++ ((j, s) ∷ []))
listed_push m k [] j s l le lt h = (le, lt, h, tt)
listed_push m k (e ∷ es) j s (a, b, c, l) le lt h = (a, b, c, listed_push m (suc e.0) es j s l le lt h)

pub least_push : (k : ℕ) (es : List Entry) (j : ℕ) (s : List ℕ) → least_after k (es ++ ((j, s) ∷ [])) ≡ suc j
least_push k [] j s = refl
least_push k (e ∷ es) j s = least_push (suc e.0) es j s

least_up : (m k : ℕ) (es : List Entry) → Listed m k es → k ≤ least_after k es
least_up m k [] l = omega arith
least_up m k (e ∷ es) (a, b, c, l) = let up = least_up m (suc e.0) es l in omega arith

pub given_push : (m k : ℕ) (es : List Entry) (n : ℕ) (s : List ℕ) (j : ℕ) → Listed m k es → least_after k es ≤ n
    → given (es ++ ((n, s) ∷ [])) j ≡ cond (eqb n j) s (given es j)
given_push m k [] n s j l le = refl
given_push m k (e ∷ es) n s j (a, b, c, l) le =
    let up = least_up m (suc e.0) es l in
    let rest = given_push m (suc e.0) es n s j l le in
    elim (cases_eq e.0 j) [
      | inl is ↦
          let here : eqb e.0 j ≡ true = eq-eqb e.0 j is in
          let other : eqb n j ≡ false = ne_eqb n j (λ same. omega arith) in
          rw (here, other) refl
      | inr no' ↦ rw (ne_eqb e.0 j no') rest
    ]

-- what entries give: names, and none from m up
pub given_named : (m k : ℕ) (es : List Entry) (j : ℕ) → Listed m k es → IsName (given es j)
given_named m k [] j l = (omega arith, tt)
given_named m k (e ∷ es) j (a, b, c, l) =
    elim (cases_eq e.0 j) [
      | inl is ↦ rw (eq-eqb e.0 j is) c.1
      | inr no' ↦ rw (ne_eqb e.0 j no') (given_named m (suc e.0) es j l)
    ]

pub given_above : (m k : ℕ) (es : List Entry) (j : ℕ) → Listed m k es → m ≤ j → given es j ≡ []
given_above m k [] j l le = refl
given_above m k (e ∷ es) j (a, b, c, l) le =
    let other : eqb e.0 j ≡ false = ne_eqb e.0 j (λ same. omega arith) in rw other (given_above m (suc e.0) es j l le)

-- the bytes of a name, and the test of them
pub all_shown : (s : List ℕ) → AllByRecursion Printable s → list_all printable s ≡ true
all_shown [] h = refl
all_shown (b ∷ s) ((low, high), h) =
    and_from (printable b) (list_all printable s) (and_from _ _ (le-leb 32 b low) (le-leb b 126 high)) (all_shown s h)

-- a body by its bytes
pub good_body : (b : List ℕ) → 2 ≤ length b → length b ≤ 17 → list_all printable (drop 1 b) ≡ true → IsBody b
good_body b low high fine =
    let rest : length (drop 1 b) ≡ length b - 1 = length-drop 1 b in
    (omega arith, (omega arith, all_printable (drop 1 b) fine))

pub bad_bytes : (b : List ℕ) → list_all printable (drop 1 b) ≡ false → IsBody b → ⊥
bad_bytes b e h = both_ways (list_all printable (drop 1 b)) e (all_shown (drop 1 b) h.1.1)

-- what is behind the first byte, as the code takes it
tail_is : (b : List ℕ) → take (length b - 1) (drop 1 b) ≡ drop 1 b
tail_is b = take_all (length b - 1) (drop 1 b) (let e : length (drop 1 b) ≡ length b - 1 = length-drop 1 b in omega arith)

pub tail_shown : (b : List ℕ) → list_all printable (drop 1 b) ≡ list_all printable (take (length b - 1) (drop 1 b))
tail_shown b = ap (list_all printable) (sym (tail_is b))

pub split_body : (b : List ℕ) → 2 ≤ length b → b ≡ get_or b 0 0 ∷ take (length b - 1) (drop 1 b)
split_body b le = drop_more b 0 0 (omega arith) ∙ ap (λ (s : List ℕ). get_or b 0 0 ∷ s) (sym (tail_is b))

pub listable_body : (b : List ℕ) (j : ℕ) (s : List ℕ) → b ≡ j ∷ s → IsBody b → Listable s
listable_body b j s is h = subst (λ (x : List ℕ). IsBody x) is h
