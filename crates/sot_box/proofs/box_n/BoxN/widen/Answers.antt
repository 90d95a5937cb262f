use Rattle.std.proofs.Common.{◌≡◌, ◌<◌, length, arith, rules, ◌∙◌, w64, SFits, to_z, of_z, ap, sym}
use Rattle.std.specs.Int.{int_min, int_max}
use Rattle.std.proofs.Math.ListN.{length-set}
use Rattle.std.proofs.lemmas.Int.{to_z-of_z}
use Rattle.sot_box.specs.Boxes.{lows, highs}
use Rattle.sot_box.specs.Sweep.{coordinate}
use Rattle.sot_box.proofs.Within.{lows-at, highs-at}
use Rattle.sot_box.proofs.Hulls.{put-low, put-high, widen-step}
use Rattle.sot_box.proofs.box_n.BoxN.widen.Goals as goal

pub loop-k-preserved : goal.loop-k-preserved
loop-k-preserved c =
    let lt : c.loop-k.k < length c.loop-k.self = omega (arith, c.loop-k.invariant.width, c.requires) in
    let fits_lo : SFits w64 c.min-lo.result = search rules in
    let fits_hi : SFits w64 c.max-hi.result = search rules in
    let al : SFits w64 c.a.inside.lo = search rules in
    let ah : SFits w64 c.a.inside.hi = search rules in
    let bl : SFits w64 c.b.inside.lo = search rules in
    let bh : SFits w64 c.b.inside.hi = search rules in
    let alo : c.a.inside.lo ≡ c.side-a.result.lo = ap (λ r. r.lo) c.a.view_is in
    let ahi : c.a.inside.hi ≡ c.side-a.result.hi = ap (λ r. r.hi) c.a.view_is in
    let blo : c.b.inside.lo ≡ c.side-b.result.lo = ap (λ r. r.lo) c.b.view_is in
    let bhi : c.b.inside.hi ≡ c.side-b.result.hi = ap (λ r. r.hi) c.b.view_is in
    let lo : to_z w64 (of_z w64 c.min-lo.result) ≡ int_min (coordinate (lows c.loop-k.self) c.loop-k.k) (coordinate (lows c.args.by.now) c.loop-k.k) =
    to_z-of_z w64 c.min-lo.result fits_lo
    ∙ rw (
      lows-at c.loop-k.self c.loop-k.k c.side-a.result c.side-a.ensures ∙ sym alo,
      lows-at c.args.by.now c.loop-k.k c.side-b.result c.side-b.ensures
          ∙ sym blo,
    ) (simp to_z-of_z at c.min-lo.ensures.value) in
    let hi : to_z w64 (of_z w64 c.max-hi.result) ≡ int_max (coordinate (highs c.loop-k.self) c.loop-k.k) (coordinate (highs c.args.by.now) c.loop-k.k) =
    to_z-of_z w64 c.max-hi.result fits_hi
    ∙ rw (
      highs-at c.loop-k.self c.loop-k.k c.side-a.result c.side-a.ensures ∙ sym ahi,
      highs-at c.args.by.now c.loop-k.k c.side-b.result c.side-b.ensures
          ∙ sym bhi,
    ) (simp to_z-of_z at c.max-hi.ensures.value) in
    widen-step c.args.by.now c.loop-k.k c.args.self.now c.loop-k.self c.put.new.self (to_z w64 (of_z w64 c.min-lo.result)) (to_z w64 (of_z w64 c.max-hi.result))
    c.loop-k.invariant (ap length c.put.ensures ∙ length-set _ _ _) lo hi
    (put-low c.loop-k.self c.put.new.self c.loop-k.k _ c.put.ensures lt)
    (put-high c.loop-k.self c.put.new.self c.loop-k.k _ c.put.ensures lt)
