-- A table of first layers that passes a test gives the layers, and with them distances and entries.
use Rattle.std.proofs.Common.{◌≡◌, ℕ, zero, suc, ◌<◌, ◌≤◌, Bool, true, false, not, ◌&&◌, ◌||◌, ltb, leb, Decides, sym, refl, ◌∙◌, subst, inl, inr, arith}
use mathlib.Core.Bool.{beq}
use Rattle.std.proofs.lemmas.Bool.{both_ways, cases_eq, and_parts, and_from, or_cases, or_left, or_right, not-true, ltb-true}
use Rattle.sets.specs.Facts.{has}
use Rattle.sets.specs.Search.{any}
use Rattle.sets.proofs.SearchLaws.{decides_any}
use Rattle.strips.specs.Tasks.{Meaning, Admitted}
use Rattle.strips.specs.Rules.{Says, Lawful}
use Rattle.layers.specs.Pairs.{pair_count}
use Rattle.layers.specs.Layers.{Layer, Stable, GoalAt, First, Distance}
use Rattle.layers.specs.Bounds.{Settles}
use Rattle.layers.proofs.LayerLaws.{enters_more, enters_swap, layer_below, stable_all}
use Rattle.reach.specs.Tables.{Table, entry}
use Rattle.reach.proofs.MadeLaws.{enters_if_made, made_if_enters}
use Rattle.cases.proofs.Tests.{every, every_passes, decides_true, As, reached?, decides_reached}
use Rattle.cases.proofs.Makes.{made?, dec_made}

same_is : (a b : Bool) → beq a b ≡ true → a ≡ b
same_is true true h = refl
same_is true false h = sym h
same_is false true h = h
same_is false false h = refl

module _ (T : Meaning) (R : Says) (tb : Table) where
  -- {p, q} is reached in the table read as layer t
  abbrev pub reads? : ℕ → ℕ → ℕ → Bool
  reads? t p q = (ltb p T.n && ltb q T.n) && leb (entry tb p q) t

  abbrev pub grows? : ℕ → ℕ → ℕ → Bool
  grows? zero p q = has T.start p && has T.start q
  grows? (suc t) p q = reads? t p q || (made? T R (reads? t) p q || made? T R (reads? t) q p)

  -- each layer up to t is the one that the table gives
  abbrev pub layers? : ℕ → Bool
  layers? zero = every T.n (λ p. every T.n (λ q. beq (reads? 0 p q) (grows? 0 p q)))
  layers? (suc t) = every T.n (λ p. every T.n (λ q. beq (reads? (suc t) p q) (grows? (suc t) p q))) && layers? t

  -- the table has a pair that is new at the layer behind t
  abbrev pub rises? : ℕ → Bool
  rises? t = any T.n (λ p. any T.n (λ q. reads? (suc t) p q && not (reads? t p q)))

  -- the layers are those of the table; L is the first that equals its next
  abbrev pub settles? : ℕ → Bool
  settles? L = layers? (suc L) && (every T.n (λ p. every T.n (λ q. beq (reads? (suc L) p q) (reads? L p q))) && every L rises?)

  abbrev pub goal? : ℕ → Bool
  goal? t = reached? T.n (reads? t) (has T.goal)

  module _ (ok : Admitted T) (law : Lawful R) where
    abbrev Right : ℕ → Type 0
    Right t = (p q : ℕ) → Decides (reads? t p q) (Layer T R t p q)

    low : (t p q : ℕ) → reads? t p q ≡ true → (p < T.n) × (q < T.n)
    low t p q e =
        let (x, y) = and_parts (ltb p T.n) _ (and_parts (ltb p T.n && ltb q T.n) _ e).0 in (ltb-true p T.n x, ltb-true q T.n y)

    alike : (f g : ℕ → ℕ → Bool) → every T.n (λ p. every T.n (λ q. beq (f p q) (g p q))) ≡ true
        → (p q : ℕ) → p < T.n → q < T.n → f p q ≡ g p q
    alike f g e p q lp lq = same_is _ _ (every_passes T.n _ (every_passes T.n _ e p lp) q lq)

    next_right : (t : ℕ) → Right t → ((p q : ℕ) → p < T.n → q < T.n → reads? (suc t) p q ≡ grows? (suc t) p q) → Right (suc t)
    next_right t right eq p q = (out, into)
      where
        out : reads? (suc t) p q ≡ true → Layer T R (suc t) p q
        out e =
            let (lp, lq) = low (suc t) p q e in
            elim (or_cases (reads? t p q) _ (sym (eq p q lp lq) ∙ e)) [
              | inl before ↦ inl ((right p q).0 before)
              | inr new ↦
                  inr (enters_more T R (λ x y. (right x y).0)
                  (elim (or_cases (made? T R (reads? t) p q) _ new) [
                    | inl m ↦ enters_if_made T R (As (reads? t)) p q ((dec_made T R (reads? t) ok p q).0 m)
                    | inr m ↦ enters_swap T R (enters_if_made T R (As (reads? t)) q p ((dec_made T R (reads? t) ok q p).0 m))
                  ]))
            ]

        into : Layer T R (suc t) p q → reads? (suc t) p q ≡ true
        into h =
            let (lp, lq) = layer_below T R ok (suc t) p q h in
            eq p q lp lq ∙ elim h [
              | inl before ↦ or_left _ _ ((right p q).1 before)
              | inr e ↦
                  elim (made_if_enters T R (As (reads? t)) law p q (enters_more T R (λ x y. (right x y).1) e)) [
                    | inl m ↦ or_right (reads? t p q) _ (or_left _ _ ((dec_made T R (reads? t) ok p q).1 m))
                    | inr (inl m) ↦ or_right (reads? t p q) _ (or_right (made? T R (reads? t) p q) _ ((dec_made T R (reads? t) ok q p).1 m))
                    | inr (inr there) ↦ or_left _ _ there
                  ]
            ]

    right_at : (t : ℕ) → layers? t ≡ true → Right t
    right_at zero e = λ p q. (
      (λ there. let (lp, lq) = low 0 p q there in and_parts _ _ (sym (alike (reads? 0) (grows? 0) e p q lp lq) ∙ there)),
      (λ h. let (lp, lq) = layer_below T R ok 0 p q h in alike (reads? 0) (grows? 0) e p q lp lq ∙ and_from _ _ h.0 h.1),
    )
    right_at (suc t) e =
        let (here, before) = and_parts (every T.n (λ p. every T.n (λ q. beq (reads? (suc t) p q) (grows? (suc t) p q)))) _ e in
        next_right t (right_at t before) (alike (reads? (suc t)) (grows? (suc t)) here)

    layers_down : (t u : ℕ) → t ≤ u → layers? u ≡ true → layers? t ≡ true
    layers_down t zero le e = let z : t ≡ 0 = omega arith in subst (λ (i : ℕ). layers? i ≡ true) (sym z) e
    layers_down t (suc u) le e =
        elim (cases_eq t (suc u)) [
          | inl is ↦ subst (λ (i : ℕ). layers? i ≡ true) (sym is) e
          | inr ne ↦ layers_down t u (omega arith) (and_parts (every T.n (λ p. every T.n (λ q. beq (reads? (suc u) p q) (grows? (suc u) p q)))) _ e).1
        ]

    module _ (L : ℕ) (e : settles? L ≡ true) where
      all_layers : layers? (suc L) ≡ true
      all_layers = (and_parts (layers? (suc L)) _ e).0

      pub right : (t : ℕ) → t ≤ suc L → Right t
      right t le = right_at t (layers_down t (suc L) le all_layers)

      stands : Stable T R L
      stands p q h =
          let same = (and_parts (every T.n (λ p. every T.n (λ q. beq (reads? (suc L) p q) (reads? L p q)))) _ (and_parts (layers? (suc L)) _ e).1).0 in
          let (lp, lq) = layer_below T R ok (suc L) p q h in
          (right L (omega arith) p q).0 (sym (alike (reads? (suc L)) (reads? L) same p q lp lq) ∙ (right (suc L) (omega arith) p q).1 h)

      not_before : (i : ℕ) → i < L → Stable T R i → ⊥
      not_before i lt st =
          let rises = (and_parts (every T.n (λ p. every T.n (λ q. beq (reads? (suc L) p q) (reads? L p q)))) _ (and_parts (layers? (suc L)) _ e).1).1 in
          let (p, lp, inner) = (decides_any T.n (λ p. any T.n (λ q. reads? (suc i) p q && not (reads? i p q)))).0 (every_passes L rises? rises i lt) in
          let (q, lq, new) = (decides_any T.n (λ q. reads? (suc i) p q && not (reads? i p q))).0 inner in
          let (now-in, not_yet) = and_parts (reads? (suc i) p q) _ new in
          both_ways (reads? i p q) (not-true _ not_yet) ((right i (omega arith) p q).1 (st p q ((right (suc i) (omega arith) p q).0 now-in)))

      pub settles : L ≤ pair_count T.n → Settles T R L
      settles few = record { first = (stands, not_before); soon = few; all = stable_all T R L stands }

      decides_goal : (t : ℕ) → t ≤ suc L → Decides (goal? t) (GoalAt T R t)
      decides_goal t le =
          let (to, from) = decides_reached T.n (reads? t) (has T.goal) (λ f. has T.goal f ≡ true) (λ f. decides_true (has T.goal f)) ok.goal in (
            (λ g p q gp gq. (right t le p q).0 (to g p q gp gq)),
            (λ h. from (λ p q gp gq. (right t le p q).1 (h p q gp gq))),
          )

      pub distance : (d : ℕ) → d ≤ L → (goal? d && every d (λ i. not (goal? i))) ≡ true → Distance T R d
      distance d le g =
          let (here, before) = and_parts (goal? d) _ g in (
            (decides_goal d (omega arith)).0 here,
            (λ i lt h. both_ways (goal? i) (not-true _ (every_passes d (λ i. not (goal? i)) before i lt)) ((decides_goal i (omega arith)).1 h)),
          )

      pub not_reached : (t : ℕ) → t ≤ L → goal? t ≡ false → GoalAt T R t → ⊥
      not_reached t le off h = both_ways (goal? t) off ((decides_goal t (omega arith)).1 h)

      pub first_at : (p q d : ℕ) → d ≤ L → (reads? d p q && every d (λ i. not (reads? i p q))) ≡ true → First T R p q d
      first_at p q d le g =
          let (here, before) = and_parts (reads? d p q) _ g in (
            (right d (omega arith) p q).0 here,
            (λ i lt h. both_ways (reads? i p q) (not-true _ (every_passes d (λ i. not (reads? i p q)) before i lt)) ((right i (omega arith) p q).1 h)),
          )

      pub never_at : (p q t : ℕ) → t ≤ L → reads? t p q ≡ false → Layer T R t p q → ⊥
      never_at p q t le off h = both_ways (reads? t p q) off ((right t (omega arith) p q).1 h)
