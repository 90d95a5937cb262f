use Rattle.std.proofs.Common.{ℕ, ◌+◌, ◌-◌, ◌/◌, ◌<◌, ◌≤◌, ⊎_elim, sym, subst, arith}
use Rattle.sot_box.specs.Regions.{CoversAll}
use Rattle.sot_recover.specs.Chosen.{chosen}
use Rattle.sot_recover.proofs.Chosen.{covers_more}
use Rattle.sot_recover.proofs.least.halve.Goals as goal

pub loop-bounds-preserved : goal.loop-bounds-preserved
loop-bounds-preserved c =
    let low = c.loop-bounds.bounds.low in
    let high = c.loop-bounds.bounds.high in
    let middle = low + (high - low) / 2 in
    let lt : low < high = c.loop-bounds-test.true in
    let inv = c.loop-bounds.invariant in
    let inside = inv.inside in
    let Covered : ℕ → Type 0 = λ k. CoversAll c.args.safe.now.boxes (chosen c.args.cells.now c.args.ranks.now k) in
    let half : (low ≤ middle) × (middle < high) = (omega arith, omega (arith, lt)) in
    ⊎_elim
    (λ a. let e = a.0 in let f = a.1 in let h0 = half.0 in let h1 = half.1 in record {
      order = omega (arith, e, f, h0);
      inside = omega (arith, f, h1, inside);
      covers = subst Covered (sym a.1) a.2;
      below = λ k below. inv.below k (omega (arith, below, e));
    })
    (λ b. let e = b.0 in let f = b.1 in let h1 = half.1 in record {
      order = omega (arith, e, f, h1);
      inside = omega (arith, f, inside);
      covers = subst Covered (sym b.1) inv.covers;
      below = λ k below covers. b.2 (covers_more c.args.safe.now.boxes c.args.cells.now c.args.ranks.now k middle (omega (arith, below, e)) covers);
    })
    c.in_ok-bounds.ensures
