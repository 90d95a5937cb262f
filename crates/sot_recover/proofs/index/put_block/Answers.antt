use Rattle.std.proofs.Common.{◌≡◌, inl, inr, ⊎_elim, sym, subst, arith}
use Rattle.std.proofs.lemmas.Bool.{cases_eq}
use Rattle.sot_recover.specs.Meeting.{MeetsAt}
use Rattle.sot_recover.proofs.Rising.{rise_up}
use Rattle.sot_recover.proofs.index.put_block.Goals as goal

pub loop-i-preserved : goal.loop-i-preserved
loop-i-preserved c = record {
  places = λ k.
      (let l = c.loop-i in
      let e = c.in_ok-put_one.ensures.places k in
      let inv = l.invariant.places k in
      let low = l.auto.i in (
        λ h. ⊎_elim
            (λ old. ⊎_elim (λ x. inl x) (λ w. let b = w.1 in inr (w.0, omega (arith, b), w.2)) (inv.0 old))
            (λ new. let s = new.0 in inr (omega (arith, s, low), omega (arith, s), subst (λ n. MeetsAt c.args.boxes.now c.args.b.now n) (sym s) new.1))
            (e.0 h),
        λ w. ⊎_elim
            (λ x. e.1 (inl (inv.1 (inl x))))
            (λ v. ⊎_elim
            (λ (here : k ≡ l.i). e.1 (inr (here, subst (λ n. MeetsAt c.args.boxes.now c.args.b.now n) here v.2)))
            (λ (ne : k ≡ l.i → ⊥). let b = v.1 in e.1 (inl (inv.1 (inr (v.0, omega (arith, b, ne), v.2)))))
            (cases_eq k l.i))
            w,
      ));
  once = λ rise. c.in_ok-put_one.ensures.once (c.loop-i.invariant.once rise);
}

pub returns-clause-places : goal.returns-clause-places
returns-clause-places c k =
    let inv = c.loop-i.invariant.places k in
    let end = c.loop-i-test.false in
    let top = c.loop-i.auto.i-end in (
      λ h. ⊎_elim (λ x. inl x) (λ w. let b = w.1 in let a = w.0 in inr (w.0, (let t = top in let o = c.requires.order in omega (arith, b, a, t, o)), w.2))
          (inv.0 h),
      λ w. inv.1 (⊎_elim (λ x. inl x) (λ v. let b = v.1 in inr (v.0, omega (arith, b, end), v.2)) w),
    )

pub returns-clause-once : goal.returns-clause-once
returns-clause-once c rise = (let end = c.loop-i-test.false in let top = c.loop-i.auto.i-end in let o = c.requires.order in
    rise_up c.loop-i.i c.args.to c.loop-i.found.items (omega (arith, end, top, o)) (c.loop-i.invariant.once rise))
