use Rattle.std.proofs.Common.{rules, ◌≡◌, ◌≤ℤ◌, w64, SFits, ap, arith}
use Rattle.std.specs.Int.{int_min, int_max}
use Rattle.std.proofs.lemmas.Int.{ints, clamps, to_z-of_z}
use Rattle.sot_atoms.proofs.grid.part_on.Goals as goal

pub invariant_of-result : goal.invariant_of-result
invariant_of-result c =
    let fits_lo : SFits w64 c.max-lo.result = search rules in
    let fits_hi : SFits w64 c.min-hi.result = search rules in
    let al : SFits w64 c.numbers.inside.lo = search rules in
    let ah : SFits w64 c.numbers.inside.hi = search rules in
    let xl : SFits w64 c.args.axis.lo = search rules in
    let xh : SFits w64 c.args.axis.hi = search rules in
    let alo : c.numbers.inside.lo ≡ c.args.numbers.lo = ap (λ r. r.lo) c.numbers.view_is in
    let ahi : c.numbers.inside.hi ≡ c.args.numbers.hi = ap (λ r. r.hi) c.numbers.view_is in
    let v : c.max-lo.result ≡ int_max c.numbers.inside.lo c.args.axis.lo = simp to_z-of_z at c.max-lo.ensures.value in
    let w : c.min-hi.result ≡ int_min c.numbers.inside.hi c.args.axis.hi = simp to_z-of_z at c.min-hi.ensures.value in
    let cut = c.requires.cut.ordered in
    let low = c.requires.low in
    let high = c.requires.high in
    let order = c.numbers.invariant in
    let e = to_z-of_z w64 c.max-lo.result fits_lo in
    let f = to_z-of_z w64 c.min-hi.result fits_hi in
    rw (e, f) (omega (arith, ints, clamps, v, w, alo, ahi, cut, low, high, order))
