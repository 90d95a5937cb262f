use Rattle.std.proofs.Common.{◌≡◌, ◌+◌, ◌++◌, ◌<◌, ◌≤ℤ◌, [], ◌∷◌, take, length, arith, rules, ap, sym, ◌∙◌, subst, w64, SFits, to_z, of_z, length-take-le}
use Rattle.std.specs.Prelude.{slice_set}
use Rattle.std.proofs.Math.ListN.{length-set}
use Rattle.std.proofs.lemmas.Int.{to_z-of_z}
use Rattle.std.proofs.lemmas.List.{take_more_set, take-set}
use Rattle.sot_box.specs.Sides.{Side, AreOrdered}
use Rattle.sot_box.proofs.Ordered.{ordered-more}
use Rattle.sot_iv.proofs.ranges.Ranges.push.Goals as goal

pub invariant_of-self-2 : goal.invariant_of-self-2
invariant_of-self-2 c =
    let lo_fits : SFits w64 c.side.inside.lo = search rules in
    let hi_fits : SFits w64 c.side.inside.hi = search rules in
    let x : Side = record { lo = to_z w64 (of_z w64 c.side.inside.lo); hi = to_z w64 (of_z w64 c.side.inside.hi) } in
    let n = c.self.inside.count in
    let xs = c.self.inside.sides in
    let inv = c.self.invariant in
    let size : length (take n xs) ≡ n = length-take-le n xs (omega (arith, inv.0, inv.1)) in
    let room : n < 80 = omega (arith, size, ap length c.self.view_is, c.requires) in
    let lt : n < length xs = omega (arith, room, inv.1) in
    let more : take (n + 1) (slice_set xs n x) ≡ take n (slice_set xs n x) ++ x ∷ [] = take_more_set xs n x lt
    ∙ ap (λ l. l ++ x ∷ []) (sym (take-set xs n x)) in
    let in_order : x.lo ≤ℤ x.hi = rw (to_z-of_z w64 c.side.inside.lo lo_fits, to_z-of_z w64 c.side.inside.hi hi_fits) c.side.invariant in
    let size' : length (slice_set xs n x) ≡ length xs = length-set _ _ _ in (
      omega (arith, room),
      size' ∙ inv.1,
      ordered-more (slice_set xs n x) n x (omega (arith, lt, size')) more (subst AreOrdered (sym (take-set xs n x)) inv.2) in_order,
    )
