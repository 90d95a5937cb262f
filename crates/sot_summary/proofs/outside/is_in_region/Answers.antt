use Rattle.std.proofs.Common.{◌≡◌, ◌∙◌, ℤ, pos, List, length, get_or, ap, arith, rules, w64, to_z, of_z}
use Rattle.std.proofs.lemmas.Int.{to_z-of_z}
use Rattle.std.proofs.lemmas.Option.{slice_get-get_or}
use Rattle.sot_box.specs.Sides.{Side}
use Rattle.sot_summary.specs.Outside.{is_in_region}
use Rattle.sot_summary.proofs.RegionTests.{same_test, same_between, on_line}
use Rattle.sot_summary.proofs.outside.is_in_region.Goals as goal

pub returns-then-at-eq1 : goal.returns-then-at-eq1
returns-then-at-eq1 c =
    let one_box : length c.args.region.now.boxes ≡ 1 = omega (arith, c.if-len-eq1.true, c.len.ensures) in
    let one : length c.args.at.now ≡ 1 = omega (arith, c.if-at-eq1.true) in
    let one_axis : length c.at.result ≡ 1 = omega (arith, one, c.at.ensures.width, c.requires.width) in
    let x = get_or c.args.at.now 0 (pos 0) in
    let low : to_z w64 (of_z w64 c.side.inside.lo) ≡ c.side-side.result.lo = to_z-of_z w64 c.side.inside.lo (search rules)
    ∙ ap (λ (r : Side). r.lo) c.side.view_is in
    let high : to_z w64 (of_z w64 c.side.inside.hi) ≡ c.side-side.result.hi = to_z-of_z w64 c.side.inside.hi (search rules)
    ∙ ap (λ (r : Side). r.hi) c.side.view_is in
    let number : to_z w64 (of_z w64 x) ≡ x = to_z-of_z w64 x (search rules) in
    c.is_between.ensures ∙ same_between _ _ _ _ _ _ low high number
    ∙ on_line c.args.region.now.boxes c.at.result c.side-side.result c.args.at.now x one_box c.at.ensures.place one_axis c.side-side.ensures one
    (slice_get-get_or c.args.at.now 0 (pos 0) (omega (arith, one)))

pub returns : goal.returns
returns c =
    let same : ◌≡◌ {A = List ℤ} c.in-Some.point c.args.at.now = c.in-Some.ensures in
    same_test c.has.result c.args.region.now.boxes c.in-Some.point c.has.ensures ∙ ap (is_in_region c.args.region.now.boxes) same
