use Rattle.std.proofs.Common.{arith, ◌+◌, ◌≤ℤ◌, ◌<ℤ◌, subst, sym}
use Rattle.std.proofs.lemmas.Int.{ints}
use Rattle.sot_certify.specs.Cuts.{extent}
use Rattle.sot_certify.specs.Widest.{IsWidestOf}
use Rattle.sot_certify.proofs.Widest.{stays, moves}
use Rattle.sot_certify.proofs.halves.widest.Goals as goal
use Rattle.sot_certify.proofs.halves.widest.Goals.{then-extent, else-extent}

pub loop-i-preserved : goal.loop-i-preserved
loop-i-preserved c =
    let e = c.extent.ensures in
    let f = c.extent-in-loop-i.ensures in
    elim c.if-extent.branch [
      | then-extent w ↦
          let t = w.if-extent.true in
          let lt : extent c.side.result <ℤ extent c.side-in-loop-i.result = omega (arith, ints, t, e, f) in
          subst (λ k. IsWidestOf c.args.cell.now (c.loop-i.i + 1) k) (sym w.axis-is)
          (moves c.args.cell.now c.loop-i.i c.loop-i.axis c.side.result c.side-in-loop-i.result c.side.ensures c.side-in-loop-i.ensures lt
          c.loop-i.invariant)
      | else-extent w ↦
          let t = w.if-extent.false in
          let le : extent c.side-in-loop-i.result ≤ℤ extent c.side.result = omega (arith, ints, t, e, f) in
          subst (λ k. IsWidestOf c.args.cell.now (c.loop-i.i + 1) k) (sym w.axis-is)
          (stays c.args.cell.now c.loop-i.i c.loop-i.axis c.side.result c.side-in-loop-i.result c.side.ensures c.side-in-loop-i.ensures le
          c.loop-i.invariant)
    ]
