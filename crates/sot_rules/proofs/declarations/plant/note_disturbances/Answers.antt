-- Of `note_disturbances`: that its loop keeps what it says, and its promises.
use Rattle.std.proofs.Common.{refl}
use Rattle.std.specs.Prelude.{flat_map}
use Rattle.sot_rules.specs.Faults.{together, noise_lists}
use Rattle.sot_rules.proofs.Loops.{step_each, none_left}
use Rattle.sot_rules.proofs.declarations.plant.note_disturbances.Goals as goal

pub loop-f-preserved : goal.loop-f-preserved
loop-f-preserved c q held =
    step_each (λ f. together (noise_lists q f)) c.args.noise.now c.loop-f.f-index c.f-item.result _ _ _
    c.loop-f-test.true c.f-item.is (c.loop-f.invariant q held) (c.note_disturbance.ensures q held)

pub returns : goal.returns
returns c q held =
    none_left (λ fs. flat_map (λ f. together (noise_lists q f)) fs) refl c.args.noise.now c.loop-f.f-index
    _ _ c.loop-f-test.false (c.loop-f.invariant q held)
