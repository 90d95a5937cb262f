use Rattle.std.proofs.Common.{◌≡◌, ℕ, suc, ◌<◌, ◌-◌, pos, ◌+ℤ◌, length, arith, subst, ap, sym, ◌∙◌, rules, w64, SFits, to_z, of_z}
use Rattle.std.proofs.lemmas.Int.{ints}
use Rattle.std.proofs.lemmas.Option.{get_or_from_slice_get}
use Rattle.sot_box.specs.Boxes.{lows, highs}
use Rattle.sot_box.specs.Sweep.{coordinate}
use Rattle.sot_box.proofs.Sweeps.{IsCarried, IsPut, put-by, carry-on, carry-before, carry-back}
use Rattle.sot_box.proofs.Within.{lows-at, highs-at}
use Rattle.sot_box.proofs.sweep.advance.Goals as goal

pub returns-then-reached-side : goal.returns-then-reached-side
returns-then-reached-side c = λ region s slab.
    let a : ℕ = c.loop-k.k - 1 in
    let lt : a < length c.args.b.now = omega (arith, c.loop-k.invariant.within) in
    let h : coordinate (highs c.args.b.now) (c.loop-k.k - 1) ≡ c.side.inside.hi = highs-at c.args.b.now (c.loop-k.k - 1) c.side-side.result c.side-side.ensures
    ∙ sym (ap (λ r. r.hi) c.side.view_is) in
    let r : coordinate c.loop-k.reach (c.loop-k.k - 1) ≡ c.at-reached.result =
    get_or_from_slice_get c.loop-k.reach (c.loop-k.k - 1) c.at-reached.result (pos 0) c.at-reached.ensures in
    let f : SFits w64 c.side.inside.hi = search rules in
    let g : SFits w64 c.at-reached.result = search rules in
    let inv : IsCarried region c.args.b.now c.args.at.now (suc (c.loop-k.k - 1)) c.loop-k.at c.loop-k.reach =
    subst (λ (n : ℕ). IsCarried region c.args.b.now c.args.at.now n c.loop-k.at c.loop-k.reach) (omega arith) (c.loop-k.invariant.carried region s slab) in
    let next : to_z w64 (of_z w64 (to_z w64 (of_z w64 c.at-reached.result) +ℤ pos 1)) ≡ coordinate c.loop-k.reach (c.loop-k.k - 1) +ℤ pos 1 =
    omega (arith, ints) in
    let p : IsPut c.loop-k.at (c.loop-k.k - 1) (coordinate c.loop-k.reach (c.loop-k.k - 1) +ℤ pos 1) c.set-then-reached-side.new.self =
    put-by c.loop-k.at c.set-then-reached-side.new.self (c.loop-k.k - 1) (coordinate c.loop-k.reach (c.loop-k.k - 1) +ℤ pos 1) _ c.set-then-reached-side.ensures
    next (omega (arith, c.loop-k.invariant.at_width)) in
    let top : to_z w64 (of_z w64 c.side.inside.hi) ≡ coordinate (highs c.args.b.now) (c.loop-k.k - 1) = omega (arith, ints) in
    let q : IsPut c.loop-k.reach (c.loop-k.k - 1) (coordinate (highs c.args.b.now) (c.loop-k.k - 1)) c.set.new.self =
    put-by c.loop-k.reach c.set.new.self (c.loop-k.k - 1) (coordinate (highs c.args.b.now) (c.loop-k.k - 1)) _ c.set.ensures top
    (omega (arith, c.loop-k.invariant.reach_width)) in (
      carry-on region c.args.b.now c.args.at.now c.loop-k.at c.loop-k.reach c.set-then-reached-side.new.self c.set.new.self (c.loop-k.k - 1) lt inv
          (omega (arith, ints)) p q,
      carry-before region c.args.b.now c.args.at.now c.loop-k.at c.loop-k.reach c.set-then-reached-side.new.self (c.loop-k.k - 1) lt c.requires.at_width inv p,
    )

pub loop-k-preserved : goal.loop-k-preserved
loop-k-preserved c =
    let lt : c.loop-k.k - 1 < length c.args.b.now = omega (arith, c.loop-k.invariant.within) in
    let h : coordinate (highs c.args.b.now) (c.loop-k.k - 1) ≡ c.side.inside.hi = highs-at c.args.b.now (c.loop-k.k - 1) c.side-side.result c.side-side.ensures
    ∙ sym (ap (λ r. r.hi) c.side.view_is) in
    let l : coordinate (lows c.args.b.now) (c.loop-k.k - 1) ≡ c.side.inside.lo = lows-at c.args.b.now (c.loop-k.k - 1) c.side-side.result c.side-side.ensures
    ∙ sym (ap (λ r. r.lo) c.side.view_is) in
    let r : coordinate c.loop-k.reach (c.loop-k.k - 1) ≡ c.at-reached.result =
    get_or_from_slice_get c.loop-k.reach (c.loop-k.k - 1) c.at-reached.result (pos 0) c.at-reached.ensures in
    let e : SFits w64 c.side.inside.lo = search rules in
    let f : SFits w64 c.side.inside.hi = search rules in
    let g : SFits w64 c.at-reached.result = search rules in
    let low : to_z w64 (of_z w64 c.side.inside.lo) ≡ coordinate (lows c.args.b.now) (c.loop-k.k - 1) = omega (arith, ints) in
    let top : to_z w64 (of_z w64 c.side.inside.hi) ≡ coordinate (highs c.args.b.now) (c.loop-k.k - 1) = omega (arith, ints) in
    let p : IsPut c.loop-k.at (c.loop-k.k - 1) (coordinate (lows c.args.b.now) (c.loop-k.k - 1)) c.set-in-loop-k.new.self =
    put-by c.loop-k.at c.set-in-loop-k.new.self (c.loop-k.k - 1) (coordinate (lows c.args.b.now) (c.loop-k.k - 1)) _ c.set-in-loop-k.ensures low
    (omega (arith, c.loop-k.invariant.at_width)) in
    let q : IsPut c.loop-k.reach (c.loop-k.k - 1) (coordinate (highs c.args.b.now) (c.loop-k.k - 1)) c.set.new.self =
    put-by c.loop-k.reach c.set.new.self (c.loop-k.k - 1) (coordinate (highs c.args.b.now) (c.loop-k.k - 1)) _ c.set.ensures top
    (omega (arith, c.loop-k.invariant.reach_width)) in
    record {
      within = omega (arith, c.loop-k.invariant.within);
      at_width = omega (arith, p.width, c.loop-k.invariant.at_width);
      reach_width = omega (arith, q.width, c.loop-k.invariant.reach_width);
      carried = λ region s slab.
          carry-back region c.args.b.now c.args.at.now c.loop-k.at c.loop-k.reach c.set-in-loop-k.new.self c.set.new.self (c.loop-k.k - 1) lt
          (subst (λ (n : ℕ). IsCarried region c.args.b.now c.args.at.now n c.loop-k.at c.loop-k.reach) (omega arith) (c.loop-k.invariant.carried region s slab))
          (omega (arith, ints)) p q;
    }
