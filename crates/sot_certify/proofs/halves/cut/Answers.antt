use Rattle.std.proofs.Common.{◌≡◌, ◌+ℤ◌, pos, ap, ◌∙◌, rules, w64, SFits}
use Rattle.std.proofs.lemmas.Int.{to_z-of_z}
use Rattle.std.specs.Prelude.{slice_set}
use Rattle.sot_box.specs.Sides.{Side}
use Rattle.sot_box.proofs.Equals.{interval_ends}
use Rattle.sot_certify.proofs.halves.cut.Goals as goal

pub returns : goal.returns
returns c =
    let fits : SFits w64 c.middle_of-end.result = search rules in
    let same = to_z-of_z w64 c.middle_of-end.result fits in
    let low : c.up_to-low.result ≡ record { lo = c.args.side.lo; hi = c.middle_of-end.result } =
    interval_ends c.up_to-low.result (record { lo = c.args.side.lo; hi = c.middle_of-end.result }) c.up_to-low.ensures.lo (c.up_to-low.ensures.hi ∙ same) in
    let high : c.above-high.result ≡ record { lo = c.middle_of-end.result +ℤ pos 1; hi = c.args.side.hi } =
    interval_ends c.above-high.result (record { lo = c.middle_of-end.result +ℤ pos 1; hi = c.args.side.hi })
    (c.above-high.ensures.lo ∙ ap (λ z. z +ℤ pos 1) same) c.above-high.ensures.hi in
    record {
      axis = c.args.axis;
      side = c.args.side;
      middle = c.middle_of-end.result;
      widest = c.requires.widest;
      apart = c.requires.apart;
      half = c.middle_of-end.ensures;
      low_is = c.with_side.ensures ∙ ap (λ (r : Side). slice_set c.args.cell.now c.args.axis r) low;
      high_is = c.with_side-2.ensures ∙ ap (λ (r : Side). slice_set c.args.cell.now c.args.axis r) high;
    }
