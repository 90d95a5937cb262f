use Rattle.std.proofs.Common.{◌≡◌, ◌<◌, ◌≤◌, inl, inr, ⊎_elim, sym, ap, ◌∙◌, subst, arith, length, true}
use Rattle.std.specs.Prelude.{slice_index_or, slice_set}
use Rattle.std.proofs.lemmas.Bool.{cases_eq}
use Rattle.std.proofs.lemmas.List.{length-set, get_or-set_same, get_or-set_other}
use Rattle.sot_lists.specs.Places.{Has}
use Rattle.sot_recover.specs.Sets.{IsSet}
use Rattle.sot_recover.specs.Thinned.{count}
use Rattle.sot_recover.proofs.Sets.{one_more, has_read, read_has, put_more, put_there, put_cases, count_put, count_up}
use Rattle.sot_recover.proofs.growing.enter.Goals as goal

pub enter_one-requires : goal.enter_one-requires
enter_one-requires c =
    let l = c.loop-n in
    let lt = c.loop-n-test.true in
    let there = c.requires.there (slice_index_or c.args.fresh.now l.n 0) (read_has c.args.fresh.now l.n lt) in
    let a = l.invariant.sizes.0 in
    record { there = omega (arith, there, a); size = l.invariant.sizes.1 ∙ sym l.invariant.sizes.0 }

pub loop-n-preserved : goal.loop-n-preserved
loop-n-preserved c =
    let l = c.loop-n in
    let inv = l.invariant in
    let f = c.args.fresh.now in
    let lt = c.loop-n-test.true in
    let i = slice_index_or f l.n 0 in
    let fresh_has = read_has f l.n lt in
    let there = c.requires.there i fresh_has in
    let e = c.enter_one.ensures in
    let set = c.enter_one.new.set in
    let ranks = c.enter_one.new.ranks in
    let room : i < length l.set = (let a = inv.sizes.0 in omega (arith, there, a)) in
    let room_ranks : i < length l.ranks = (let a = inv.sizes.1 in omega (arith, there, a)) in
    record {
      sizes = (ap length e.set ∙ length-set l.set i true ∙ inv.sizes.0, ap length e.ranks ∙ length-set l.ranks i c.args.rank ∙ inv.sizes.1);
      set = λ k. (
        λ s. ⊎_elim
            (λ old. ⊎_elim (λ x. inl x) (λ w. let b = w.1 in inr (w.0, omega (arith, b), w.2)) ((inv.set k).0 old))
            (λ (here : k ≡ i). inr (l.n, omega arith, sym here))
            (put_cases l.set i k (subst (λ xs. IsSet xs k) e.set s)),
        λ w. subst (λ xs. IsSet xs k) (sym e.set) (⊎_elim
            (λ x. put_more l.set i k ((inv.set k).1 (inl x)))
            (λ v. ⊎_elim
            (λ before. put_more l.set i k ((inv.set k).1 (inr (v.0, before, v.2))))
            (λ (here : v.0 ≡ l.n). subst (IsSet (slice_set l.set i true)) (subst (λ n. slice_index_or f n 0 ≡ k) here v.2) (put_there l.set i room))
            (one_more v.0 l.n v.1))
            w),
      );
      entered = λ q below. ap (λ xs. slice_index_or xs (slice_index_or f q 0) 0) e.ranks ∙ ⊎_elim
          (λ (same : slice_index_or f q 0 ≡ i). subst (λ n. slice_index_or (slice_set l.ranks i c.args.rank) n 0 ≡ c.args.rank) (sym same)
          (get_or-set_same l.ranks i c.args.rank 0 room_ranks))
          (λ (ne : slice_index_or f q 0 ≡ i → ⊥). get_or-set_other l.ranks i (slice_index_or f q 0) c.args.rank 0 ne ∙ ⊎_elim
          (λ before. inv.entered q before)
          (λ (here : q ≡ l.n). absurd (ne (ap (λ n. slice_index_or f n 0) here)))
          (one_more q l.n below))
          (cases_eq (slice_index_or f q 0) i);
      others = λ k none.
          let ne : k ≡ i → ⊥ = λ same. none l.n (omega arith) (sym same) in
          ap (λ xs. slice_index_or xs k 0) e.ranks ∙ get_or-set_other l.ranks i k c.args.rank 0 ne ∙ inv.others k (λ q below. none q (omega (arith, below)));
      grown = subst (λ xs. count c.args.set.now ≤ count xs) (sym e.set) (let a = count_put l.set i in let b = inv.grown in omega (arith, a, b));
      some = λ any. subst (λ xs. count c.args.set.now < count xs) (sym e.set) (⊎_elim
          (λ (zero' : l.n ≡ 0).
          let new = c.requires.new i fresh_has in
          let out : IsSet l.set i → ⊥ = λ s. ⊎_elim (λ x. new x) (λ w. let b = w.1 in omega (arith, b, zero')) ((inv.set i).0 s) in
          let a = count_up l.set i room out in let b = inv.grown in omega (arith, a, b))
          (λ (ne : l.n ≡ 0 → ⊥). let a = count_put l.set i in let b = inv.some (omega (arith, ne)) in omega (arith, a, b))
          (cases_eq l.n 0));
    }

pub returns-clause-set : goal.returns-clause-set
returns-clause-set c i =
    let f = c.args.fresh.now in
    let end = c.loop-n-test.false in
    let top = c.loop-n.auto.n-end in
    let s = c.loop-n.invariant.set i in (
      λ e. ⊎_elim (λ x. inl x) (λ w. let b = w.1 in inr (subst (Has f) w.2 (read_has f w.0 (omega (arith, b, top))))) (s.0 e),
      λ h. s.1 (⊎_elim (λ x. inl x) (λ y. let r = has_read f i y in let b = r.1 in inr (r.0, omega (arith, b, end), r.2)) h),
    )

pub returns-clause-ranks : goal.returns-clause-ranks
returns-clause-ranks c i =
    let f = c.args.fresh.now in
    let end = c.loop-n-test.false in
    let top = c.loop-n.auto.n-end in
    let inv = c.loop-n.invariant in (
      λ h. (let r = has_read f i h in let b = r.1 in subst (λ n. slice_index_or c.loop-n.ranks n 0 ≡ c.args.rank) r.2
          (inv.entered r.0 (omega (arith, b, end)))),
      λ none. inv.others i (λ q below same. none (subst (Has f) same (read_has f q (omega (arith, below, top))))),
    )
