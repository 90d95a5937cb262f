use Rattle.std.proofs.Common.{◌≡◌, ◌<◌, length, arith, rules, w64, SFits, ap, sym, ◌∙◌}
use Rattle.std.proofs.lemmas.Int.{to_z-of_z}
use Rattle.sot_box.specs.Boxes.{lows}
use Rattle.sot_box.proofs.Within.{lows-at, lows-width, more-written}
use Rattle.sot_box.proofs.box_n.BoxN.low.Goals as goal

pub loop-i-preserved : goal.loop-i-preserved
loop-i-preserved c =
    let below : c.loop-i.i < length c.loop-i.at = omega (arith, c.loop-i.invariant.width) in
    let v : c.side.inside.lo ≡ c.side-side.result.lo = ap (λ r. r.lo) c.side.view_is in
    let more = more-written c.loop-i.at (lows c.args.self.now) c.loop-i.i c.side.inside.lo below (omega (arith, lows-width c.args.self.now))
    (lows-at c.args.self.now c.loop-i.i c.side-side.result c.side-side.ensures ∙ sym v) c.loop-i.invariant.done in
    let fits : SFits w64 c.side.inside.lo = search rules in
    record {
      width = search rules;
      done = rw (c.set.ensures, to_z-of_z w64 c.side.inside.lo fits) more;
    }
