use Rattle.std.proofs.Common.{◌≡◌, ◌<◌, inl, inr, ⊎_elim, sym, subst, arith}
use Rattle.std.specs.Prelude.{slice_index_or}
use Rattle.sot_lists.specs.Places.{Has}
use Rattle.sot_recover.specs.Entered.{MayEnter}
use Rattle.sot_recover.proofs.Sets.{one_more, has_read, read_has}
use Rattle.sot_recover.proofs.growing.put_entering.Goals as goal

pub loop-n-preserved : goal.loop-n-preserved
loop-n-preserved g c k =
    let l = c.loop-n in
    let a = c.in_ok-consider.ensures k in
    let near = c.args.near.now in (
      λ h. ⊎_elim
          (λ (old : Has l.fresh.items k). let w = (l.invariant k).0 old in let lt = w.0.1 in ((w.0.0, omega (arith, lt), w.0.2), w.1))
          (λ new. ((l.n, omega arith, sym new.0), subst (MayEnter (g.L.Landing.lands c.args.places.now) c.args.set.now) (sym new.0) new.1))
          (a.0 h),
      λ w. ⊎_elim
          (λ (before : w.0.0 < l.n). a.1 (inl ((l.invariant k).1 ((w.0.0, before, w.0.2), w.1))))
          (λ (here : w.0.0 ≡ l.n). let is = subst (λ q. slice_index_or near q 0 ≡ k) here w.0.2 in
          a.1 (inr (sym is, subst (MayEnter (g.L.Landing.lands c.args.places.now) c.args.set.now) (sym is) w.1)))
          (one_more w.0.0 l.n w.0.1),
    )

pub returns : goal.returns
returns g c k =
    let near = c.args.near.now in
    let end = c.loop-n-test.false in
    let inv = c.loop-n.invariant k in (
      λ h. (let w = inv.0 h in let lt = w.0.1 in let s = c.loop-n.auto.n-end in (subst (Has near) w.0.2 (read_has near w.0.0 (omega (arith, lt, s))), w.1)),
      λ w. (let r = has_read near k w.0 in let lt = r.1 in inv.1 ((r.0, omega (arith, lt, end), r.2), w.1)),
    )
