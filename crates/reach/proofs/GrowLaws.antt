-- What is written is the next layer.
use Rattle.std.proofs.Common.{◌≡◌, ℕ, ◌+◌, ◌<◌, ◌≤◌, Bool, true, false, ◌⊎◌, get_or, Ok, Decides, sym, refl, ap, ◌∙◌, subst, inl, inr, arith}
use Rattle.std.proofs.lemmas.List.{same_lists, get_or_default}
use Rattle.std.proofs.lemmas.Bool.{both_ways, cases_Bool, cases_lt}
use Rattle.strips.specs.Tasks.{Meaning, Admitted}
use Rattle.strips.specs.Rules.{Says, Lawful}
use Rattle.layers.specs.Pairs.{pair_count, entry_number}
use Rattle.layers.proofs.PairLaws.{entry_number_swap, entry_number_below}
use Rattle.layers.proofs.LayerLaws.{enters_more, enters_swap, enters_below}
use Rattle.reach.specs.declared.pair_set.PairSet.{PairSet}
use Rattle.reach.specs.PairSets.{paired, Fresh, Wrote}
use Rattle.reach.specs.Tables.{Table, Room, entry, Reads, New, Growing}
use Rattle.reach.specs.Makings.{In, Made}
use Rattle.reach.proofs.EntryLaws.{entry_number_alike}
use Rattle.reach.proofs.PairSetLaws.{reached_turn}
use Rattle.reach.proofs.MadeLaws.{enters_if_made, made_if_enters}

module _ (T : Meaning) (R : Says) (ok : Admitted T) (law : Lawful R) (t : ℕ) (tb : Table) (room : Room T.n tb) (s made : PairSet)
    (reads : (p q : ℕ) → Decides (paired s p q) (Reads T.n t tb p q))
    (makes : (p q : ℕ) → Decides (paired made p q) (Made T R (In s) p q)) where
  unread : (p q : ℕ) → p < T.n → q < T.n → paired s p q ≡ false → t < entry tb p q
  unread p q lp lq off =
      elim (cases_lt t (entry tb p q)) [ inl lt ↦ lt | inr le ↦ absurd (both_ways _ off ((reads p q).1 (lp, lq, le))) ]

  fresh_new : (p q : ℕ) → Fresh made s T.n p q → New T R t tb p q
  fresh_new p q f =
      let e = enters_if_made T R (In s) p q ((makes p q).0 f.there) in
      let (lp, lq) = enters_below T R ok (In s) p q e in
      (lp, lq, unread p q lp lq f.absent, enters_more T R (λ x y. (reads x y).0) e)

  new_swap : (p q : ℕ) → New T R t tb p q → New T R t tb q p
  new_swap p q (lp, lq, lt, e) =
      (lq, lp, subst (λ (i : ℕ). t < get_or tb i 0) (entry_number_swap p q) lt, enters_swap T R e)

  new_unread : (p q : ℕ) → New T R t tb p q → paired s p q ≡ false
  new_unread p q (lp, lq, lt, e) =
      elim (cases_Bool (paired s p q)) [ inl there ↦ absurd (let le = ((reads p q).0 there).2 in omega arith) | inr off ↦ off ]

  new_fresh : (p q : ℕ) → New T R t tb p q → Fresh made s T.n p q ⊎ Fresh made s T.n q p
  new_fresh p q new =
      let (lp, lq, lt, e) = new in
      elim (made_if_enters T R (In s) law p q (enters_more T R (λ x y. (reads x y).1) e)) [
        | inl m ↦ inl record { low = lp; there = (makes p q).1 m; absent = new_unread p q new }
        | inr (inl m) ↦ inr record { low = lq; there = (makes q p).1 m; absent = new_unread q p (new_swap p q new) }
        | inr (inr there) ↦ absurd (both_ways _ (new_unread p q new) there)
      ]

  module _ (tb' : Table) where
    module _ (any : Bool) (wrote : Wrote made s T.n (t + 1) tb tb' any) where
      written : (p q : ℕ) → New T R t tb p q → entry tb' p q ≡ t + 1
      written p q new =
          elim (new_fresh p q new) [
            | inl f ↦ wrote.written p q f
            | inr f ↦ ap (λ (i : ℕ). get_or tb' i 0) (entry_number_swap p q) ∙ wrote.written q p f
          ]

      others : (p q : ℕ) → (New T R t tb p q → ⊥) → entry tb' p q ≡ entry tb p q
      others p q old =
          wrote.kept (entry_number p q) (λ x y f e. elim (entry_number_alike x y p q e) [
            | inl (px, qy) ↦ old (subst (λ (i : ℕ). New T R t tb i q) (sym px) (subst (λ (i : ℕ). New T R t tb x i) (sym qy) (fresh_new x y f)))
            | inr (py, qx) ↦ old (subst (λ (i : ℕ). New T R t tb i q) (sym py) (subst (λ (i : ℕ). New T R t tb y i) (sym qx) (new_swap x y (fresh_new x y f))))
          ])

      -- whether a pair is new
      decide : (p q : ℕ) → p < T.n → q < T.n → New T R t tb p q ⊎ (New T R t tb p q → ⊥)
      decide p q lp lq =
          elim (cases_Bool (paired s p q)) [
            | inl there ↦ inr (λ new. both_ways _ (new_unread p q new) there)
            | inr off ↦
                elim (cases_Bool (paired made p q)) [
                  | inl m ↦ inl (fresh_new p q record { low = lp; there = m; absent = off })
                  | inr no-pq ↦
                      elim (cases_Bool (paired made q p)) [
                        | inl m ↦ inl (new_swap q p (fresh_new q p record { low = lq; there = m; absent = turned off }))
                        | inr no-qp ↦
                            inr (λ new. elim (new_fresh p q new) [
                              | inl f ↦ both_ways _ no-pq f.there
                              | inr f ↦ both_ways _ no-qp f.there
                            ])
                      ]
                ]
          ]
        where
          turned : paired s p q ≡ false → paired s q p ≡ false
          turned off =
              elim (cases_Bool (paired s q p)) [
                | inl there ↦ absurd (both_ways _ off (reached_turn T.n t tb s reads q p there))
                | inr no-qp ↦ no-qp
              ]

      behind : (i : ℕ) → pair_count T.n ≤ i → get_or tb' i 0 ≡ get_or tb i 0
      behind i far =
          wrote.kept i (λ x y f e. let (lx, ly, _, _) = fresh_new x y f in let in_table = entry_number_below x y T.n lx ly in omega arith)

    grown_true : t < pair_count T.n → Wrote made s T.n (t + 1) tb tb' true → Growing T R t tb (Ok true) tb'
    grown_true lt wrote =
        let (p, q, f) = wrote.some refl in (
          room,
          lt,
          record {
            some = (p, q, fresh_new p q f);
            entries = λ p q lp lq. elim (decide true wrote p q lp lq) [
              | inl new ↦ inl (new, written true wrote p q new)
              | inr old ↦ inr (old, others true wrote p q old)
            ];
            kept = record { same_length = wrote.same_length; behind = behind true wrote };
          },
        )

    grown_false : Wrote made s T.n (t + 1) tb tb' false → Growing T R t tb (Ok false) tb'
    grown_false wrote =
        let same : (i : ℕ) → get_or tb' i 0 ≡ get_or tb i 0 = λ i. wrote.kept i (λ x y f e. wrote.none refl x y f) in (
          room,
          inr (λ p q new. elim (new_fresh p q new) [
            | inl f ↦ wrote.none refl p q f
            | inr f ↦ wrote.none refl q p f
          ]),
          same_lists tb' tb wrote.same_length (λ k d lt. let long = wrote.same_length in get_or_default tb' k d 0 lt ∙ same k ∙ get_or_default tb k 0 d (omega arith)),
        )

  pub grown : (tb' : Table) (any : Bool) → t < pair_count T.n → Wrote made s T.n (t + 1) tb tb' any → Growing T R t tb (Ok any) tb'
  grown tb' true lt wrote = grown_true tb' lt wrote
  grown tb' false lt wrote = grown_false tb' wrote
