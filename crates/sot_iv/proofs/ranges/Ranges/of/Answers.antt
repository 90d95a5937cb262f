use Rattle.std.proofs.Common.{◌≡◌, ◌+◌, ◌++◌, ◌≤ℤ◌, [], ◌∷◌, take, arith, rules, ap, sym, ◌∙◌, w64, SFits, to_z, of_z}
use Rattle.std.proofs.Math.ListN.{length-set}
use Rattle.std.proofs.lemmas.Int.{to_z-of_z, ints}
use Rattle.std.proofs.lemmas.List.{take_more, take_more_set}
use Rattle.sot_box.specs.Sides.{Side}
use Rattle.sot_box.proofs.Equals.{interval_ends}
use Rattle.sot_box.proofs.Ordered.{ordered-more}
use Rattle.sot_iv.proofs.ranges.Ranges.of.Goals as goal

pub loop-i-preserved : goal.loop-i-preserved
loop-i-preserved c =
    let lo_fits : SFits w64 c.side.inside.lo = search rules in
    let hi_fits : SFits w64 c.side.inside.hi = search rules in
    let x : Side = record { lo = to_z w64 (of_z w64 c.side.inside.lo); hi = to_z w64 (of_z w64 c.side.inside.hi) } in
    let same : x ≡ c.index-sides-i.result =
    interval_ends x c.index-sides-i.result (to_z-of_z w64 c.side.inside.lo lo_fits ∙ ap (λ (r : Side). r.lo) c.side.view_is)
    (to_z-of_z w64 c.side.inside.hi hi_fits ∙ ap (λ (r : Side). r.hi) c.side.view_is) in
    let more : take (c.loop-i.i + 1) c.args.sides.now ≡ take c.loop-i.i c.args.sides.now ++ c.index-sides-i.result ∷ [] =
    take_more c.args.sides.now c.loop-i.i c.index-sides-i.result (omega arith)
    ∙ ap (λ z. take c.loop-i.i c.args.sides.now ++ z ∷ []) (sym c.index-sides-i.is) in
    let ordered : c.index-sides-i.result.lo ≤ℤ c.index-sides-i.result.hi =
    omega (arith, ints, c.side.invariant, ap (λ (r : Side). r.lo) c.side.view_is, ap (λ (r : Side). r.hi) c.side.view_is) in
    record {
      room = length-set _ _ _ ∙ c.loop-i.invariant.room;
      taken =
          take_more_set c.loop-i.inline c.loop-i.i x (omega arith) ∙ ap (λ zs. zs ++ x ∷ []) c.loop-i.invariant.taken
          ∙ ap (λ z. take c.loop-i.i c.args.sides.now ++ z ∷ []) same ∙ sym more;
      ordered = ordered-more c.args.sides.now c.loop-i.i c.index-sides-i.result (omega arith) more c.loop-i.invariant.ordered ordered;
    }
