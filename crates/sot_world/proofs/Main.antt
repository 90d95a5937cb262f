-- The main theorem's three parts together.
use Rattle.sot_tube.proofs.Certificate.{certified_well}
use Rattle.sot_world.specs.Headline.{OpeningsKeepInvariant, StepsKeepInvariant, WellFormedRunsKeepInvariant, InvariantIsSafe, CertifiedRunsAreSafe}
use Rattle.sot_world.proofs.Opening.{opening_holds}
use Rattle.sot_world.proofs.Induction.{run_holds, step_holds}
use Rattle.sot_world.proofs.Safety.{safe_now}

pub runs_keep_invariant : WellFormedRunsKeepInvariant
runs_keep_invariant p j typed well start C events Ds opening safer run i D at =
    run_holds p j typed well C events Ds (opening_holds p j typed well start C opening safer) run i D at

pub invariant_is_safe : InvariantIsSafe
invariant_is_safe p j C typed well h = safe_now p j typed well C h

pub certified_runs_are_safe : CertifiedRunsAreSafe
certified_runs_are_safe p j cert typed c start C events Ds opening safer run i D at =
    let well = certified_well p j cert typed c in
    invariant_is_safe p j D typed well (runs_keep_invariant p j typed well start C events Ds opening safer run i D at)

pub openings_keep_invariant : OpeningsKeepInvariant
openings_keep_invariant p j start C typed well opening safer = opening_holds p j typed well start C opening safer

pub steps_keep_invariant : StepsKeepInvariant
steps_keep_invariant p j C D e typed well h s = step_holds p j typed well C D e h s
