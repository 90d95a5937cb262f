use Rattle.std.proofs.Common.{◌≡◌, inl, inr, ⊎_elim, sym, ◌∙◌, subst, arith}
use Rattle.std.specs.Prelude.{slice_index_or}
use Rattle.sot_recover.proofs.Sets.{one_more, has_read, read_has}
use Rattle.sot_recover.specs.Near.{IsInChosen}
use Rattle.sot_recover.proofs.near.push_all.Goals as goal

pub loop-n-preserved : goal.loop-n-preserved
loop-n-preserved c =
    let l = c.loop-n in
    let e = c.in_ok-push_chosen.ensures in
    let f = c.args.found.now in
    record {
      width = e.width ∙ l.invariant.width;
      points = λ s. (let a = e.points s in let inv = l.invariant.points s in (
        λ h. ⊎_elim
            (λ old. ⊎_elim (λ o. inl o) (λ w. let b = w.1 in inr (w.0, omega (arith, b), w.2)) (inv.0 old))
            (λ new. inr (l.n, omega arith, new))
            (a.0 h),
        λ w. ⊎_elim
            (λ o. a.1 (inl (inv.1 (inl o))))
            (λ v. ⊎_elim
            (λ before. a.1 (inl (inv.1 (inr (v.0, before, v.2)))))
            (λ (here : v.0 ≡ l.n). a.1 (inr (subst (λ q. IsInChosen c.args.cells.now c.args.set.now (slice_index_or f q 0) s) here v.2)))
            (one_more v.0 l.n v.1))
            w,
      ));
    }

pub returns-clause-points : goal.returns-clause-points
returns-clause-points c s =
    let f = c.args.found.now in
    let end = c.loop-n-test.false in
    let top = c.loop-n.auto.n-end in
    let inv = c.loop-n.invariant.points s in (
      λ h. ⊎_elim (λ o. inl o) (λ w. let b = w.1 in inr (slice_index_or f w.0 0, read_has f w.0 (omega (arith, b, top)), w.2)) (inv.0 h),
      λ w. inv.1 (⊎_elim (λ o. inl o) (λ v. let r = has_read f v.0 v.1 in let b = r.1 in
          inr (r.0, omega (arith, b, end), subst (λ i. IsInChosen c.args.cells.now c.args.set.now i s) (sym r.2) v.2)) w),
    )
