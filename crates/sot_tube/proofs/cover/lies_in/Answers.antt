use Rattle.std.proofs.Common.{◌≡◌, ◌≤ℤ◌, ap, arith, length}
use Rattle.std.proofs.lemmas.Int.{ints}
use Rattle.sot_tube.proofs.Covered.{LieIn, lie_more, within_wider}
use Rattle.sot_tube.proofs.cover.lies_in.Goals as goal

pub loop-i-preserved : goal.loop-i-preserved
loop-i-preserved c =
    let r = c.side-inner.result in
    let q = c.side-outer.result in
    let rl : c.inner.inside.lo ≡ r.lo = ap (λ x. x.lo) c.inner.view_is in
    let rh : c.inner.inside.hi ≡ r.hi = ap (λ x. x.hi) c.inner.view_is in
    let ql : c.outer.inside.lo ≡ q.lo = ap (λ x. x.lo) c.outer.view_is in
    let qh : c.outer.inside.hi ≡ q.hi = ap (λ x. x.hi) c.outer.view_is in
    let low : q.lo ≤ℤ r.lo = omega (arith, ints) in
    let high : r.hi ≤ℤ q.hi = omega (arith, ints) in
    lie_more c.args.b.now c.args.other.now c.loop-i.i r q c.loop-i.invariant c.side-inner.ensures c.side-outer.ensures (low, high)

pub returns : goal.returns
returns c t s =
    let all : LieIn c.args.b.now c.args.other.now (length c.args.b.now) = λ k below. c.loop-i.invariant k (omega (arith, below)) in
    within_wider c.args.b.now c.args.other.now s c.requires all
