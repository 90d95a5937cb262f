use Rattle.std.proofs.Common.{◌≡◌, ◌<◌, pos, ◌≤ℤ◌, length, arith, below_more, refl, ap}
use Rattle.std.proofs.lemmas.Int.{ints}
use Rattle.std.proofs.lemmas.Option.{get_or_from_slice_get}
use Rattle.sot_box.specs.Boxes.{lows, highs}
use Rattle.sot_box.specs.Sweep.{coordinate}
use Rattle.sot_box.proofs.Within.{within-low, within-high, within-from, lows-at, highs-at}
use Rattle.sot_box.proofs.box_n.BoxN.has.Goals as goal
use Rattle.sot_box.proofs.box_n.BoxN.has.Goals.{then-x-side-via-then-x-side, then-x-side-via-else-x-side+then-side-x}

pub returns-then-x-side : goal.returns-then-x-side
returns-then-x-side c = (
  λ t. absurd (cc),
  λ w.
      let below : c.loop-i.i < length c.args.self.now = omega arith in
      let low : coordinate (lows c.args.self.now) c.loop-i.i ≤ℤ coordinate c.args.p.now c.loop-i.i =
      within-low c.args.self.now c.args.p.now c.loop-i.i w below in
      let high : coordinate c.args.p.now c.loop-i.i ≤ℤ coordinate (highs c.args.self.now) c.loop-i.i =
      within-high c.args.self.now c.args.p.now c.loop-i.i w below in
      let vl : c.side.inside.lo ≡ c.side-side.result.lo = ap (λ r. r.lo) c.side.view_is in
      let vh : c.side.inside.hi ≡ c.side-side.result.hi = ap (λ r. r.hi) c.side.view_is in
      let l : coordinate (lows c.args.self.now) c.loop-i.i ≡ c.side-side.result.lo =
      lows-at c.args.self.now c.loop-i.i c.side-side.result c.side-side.ensures in
      let h : coordinate (highs c.args.self.now) c.loop-i.i ≡ c.side-side.result.hi =
      highs-at c.args.self.now c.loop-i.i c.side-side.result c.side-side.ensures in
      let x : coordinate c.args.p.now c.loop-i.i ≡ c.at-x.result = get_or_from_slice_get c.args.p.now c.loop-i.i c.at-x.result (pos 0) c.at-x.ensures in
      absurd (elim c.then-x-side.branch [
        | then-x-side-via-then-x-side b ↦ omega (arith, ints)
        | then-x-side-via-else-x-side+then-side-x b ↦ omega (arith, ints)
      ]),
)

pub loop-i-preserved : goal.loop-i-preserved
loop-i-preserved c =
    let vl : c.side.inside.lo ≡ c.side-side.result.lo = ap (λ r. r.lo) c.side.view_is in
    let vh : c.side.inside.hi ≡ c.side-side.result.hi = ap (λ r. r.hi) c.side.view_is in
    let l : coordinate (lows c.args.self.now) c.loop-i.i ≡ c.side-side.result.lo = lows-at c.args.self.now c.loop-i.i c.side-side.result c.side-side.ensures in
    let h : coordinate (highs c.args.self.now) c.loop-i.i ≡ c.side-side.result.hi =
    highs-at c.args.self.now c.loop-i.i c.side-side.result c.side-side.ensures in
    let x : coordinate c.args.p.now c.loop-i.i ≡ c.at-x.result = get_or_from_slice_get c.args.p.now c.loop-i.i c.at-x.result (pos 0) c.at-x.ensures in
    record {
      low = below_more _ _ c.loop-i.invariant.low (omega (arith, ints));
      high = below_more _ _ c.loop-i.invariant.high (omega (arith, ints));
    }

pub returns : goal.returns
returns c = (
  λ t. within-from c.args.self.now c.args.p.now c.requires (λ k lt. c.loop-i.invariant.low k (omega arith))
      (λ k lt. c.loop-i.invariant.high k (omega arith)),
  λ w. refl,
)
