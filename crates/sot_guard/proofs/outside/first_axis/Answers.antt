use Rattle.std.proofs.Common.{◌≡◌, ⊎_elim, ap, subst, arith}
use Rattle.std.proofs.lemmas.Bool.{cases_lt}
use Rattle.std.proofs.lemmas.Int.{ints}
use Rattle.std.proofs.lemmas.Option.{slice_get_within}
use Rattle.sot_lists.specs.Places.{At}
use Rattle.sot_lists.proofs.Places.{at_same}
use Rattle.sot_box.specs.Sides.{IsIn}
use Rattle.sot_guard.proofs.Boxes.{within_each}
use Rattle.sot_guard.proofs.outside.first_axis.Goals as goal

pub loop-i-preserved : goal.loop-i-preserved
loop-i-preserved c = λ j r z lt at_b at_s.
    let side = c.side-side.result in
    let low = ap (λ q. q.lo) c.side.view_is in
    let high = ap (λ q. q.hi) c.side.view_is in
    let here : IsIn side c.at-x.result = (omega (arith, ints), omega (arith, ints)) in
    ⊎_elim
    (λ before. c.loop-i.invariant j r z before at_b at_s)
    (λ more.
    let e : c.loop-i.i ≡ j = omega (arith, lt, more) in
    let same : side ≡ r = at_same c.args.b.now j side r (subst (λ n. At c.args.b.now n side) e c.side-side.ensures) at_b in
    let is : c.at-x.result ≡ z = at_same c.args.s.now j c.at-x.result z (subst (λ n. At c.args.s.now n c.at-x.result) e c.at-x.ensures) at_s in
    subst (λ q. IsIn q z) same (subst (IsIn side) is here))
    (cases_lt j c.loop-i.i)

pub returns : goal.returns
returns c = within_each c.args.b.now c.args.s.now c.requires (λ j r z at_b at_s.
    let below = slice_get_within c.args.b.now j r at_b in
    c.loop-i.invariant j r z (omega (arith, below, c.loop-i-test.false, c.len-i-end.ensures.value)) at_b at_s)
