use Rattle.std.proofs.Common.{◌≡◌, suc, ◌+◌, ◌++◌, length, take, sym, subst, arith, length-append}
use Rattle.std.specs.Prelude.{slice_index_or}
use Rattle.std.proofs.lemmas.Option.{slice_get-get_or}
use Rattle.sot_lists.specs.Places.{At}
use Rattle.sot_lang.specs.OwnerNames.{width_of, seen_width}
use Rattle.sot_iv.specs.SeenHulls.{AreSeenHulls}
use Rattle.sot_iv.proofs.SeenHulls.{seen_more, width_next, width_fits}
use Rattle.sot_iv.proofs.bounds.seen_hulls.Goals as goal

pub put_box-requires : goal.put_box-requires
put_box-requires c =
    let k = slice_index_or c.args.sees.now c.loop-i.i 0 in
    let at : At c.args.sees.now c.loop-i.i k = slice_get-get_or c.args.sees.now c.loop-i.i 0 c.loop-i-test.true in
    let fits = width_fits c.args.p.now.plants c.args.sees.now c.loop-i.i k at in
    let wide : length c.in-Some.hull ≡ width_of c.args.p.now.plants k = c.in-Some.ensures.1 in
    omega (arith, fits, wide, c.loop-i.invariant.1, c.requires.few)

pub loop-i-preserved : goal.loop-i-preserved
loop-i-preserved c =
    let k = slice_index_or c.args.sees.now c.loop-i.i 0 in
    let at : At c.args.sees.now c.loop-i.i k = slice_get-get_or c.args.sees.now c.loop-i.i 0 c.loop-i-test.true in
    let wide : length c.in-Some.hull ≡ width_of c.args.p.now.plants k = c.in-Some.ensures.1 in
    let more : AreSeenHulls c.args.p.now.modules (take (suc c.loop-i.i) c.args.sees.now) (c.loop-i.sides ++ c.in-Some.hull) =
    seen_more c.args.p.now.modules c.args.sees.now c.loop-i.i k c.loop-i.sides c.in-Some.hull at c.loop-i.invariant.0 c.in-Some.ensures.0 in
    let next = width_next c.args.p.now.plants c.args.sees.now c.loop-i.i k at in
    let long : length (c.loop-i.sides ++ c.in-Some.hull) ≡ seen_width c.args.p.now.plants (take (suc c.loop-i.i) c.args.sees.now) =
    omega (arith, next, wide, c.loop-i.invariant.1, length-append c.loop-i.sides c.in-Some.hull) in
    let up : suc c.loop-i.i ≡ c.loop-i.i + 1 = omega arith in
    subst (λ q. AreSeenHulls c.args.p.now.modules (take q c.args.sees.now) c.put_box.new.sides
    × (length c.put_box.new.sides ≡ seen_width c.args.p.now.plants (take q c.args.sees.now))) up
    (subst (λ q. AreSeenHulls c.args.p.now.modules (take (suc c.loop-i.i) c.args.sees.now) q
    × (length q ≡ seen_width c.args.p.now.plants (take (suc c.loop-i.i) c.args.sees.now))) (sym c.put_box.ensures) (more, long))
