use Rattle.std.proofs.Common.{◌≡◌, ◌<◌, length, arith, rules, w64, SFits, ap, sym, ◌∙◌}
use Rattle.std.proofs.lemmas.Int.{to_z-of_z}
use Rattle.sot_box.specs.Boxes.{highs}
use Rattle.sot_box.proofs.Within.{highs-at, highs-width, more-written}
use Rattle.sot_box.proofs.box_n.BoxN.high.Goals as goal

pub loop-i-preserved : goal.loop-i-preserved
loop-i-preserved c =
    let below : c.loop-i.i < length c.loop-i.at = omega (arith, c.loop-i.invariant.width) in
    let v : c.side.inside.hi ≡ c.side-side.result.hi = ap (λ r. r.hi) c.side.view_is in
    let more = more-written c.loop-i.at (highs c.args.self.now) c.loop-i.i c.side.inside.hi below (omega (arith, highs-width c.args.self.now))
    (highs-at c.args.self.now c.loop-i.i c.side-side.result c.side-side.ensures ∙ sym v) c.loop-i.invariant.done in
    let fits : SFits w64 c.side.inside.hi = search rules in
    record {
      width = search rules;
      done = rw (c.set.ensures, to_z-of_z w64 c.side.inside.hi fits) more;
    }
