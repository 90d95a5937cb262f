-- The running example with its decision left, in mode Sc and in its safer region.
use Rattle.std.proofs.Common.{◌≡◌, refl, ap, ◌∙◌}
use Rattle.std.specs.Prelude.{slice_index_or}
use Rattle.std.specs.Global.{Global}
use Rattle.sot_lang.specs.Line.{nav}
use Rattle.sot_world.specs.declared.mode.Mode.TheVariants.{Sc}
use Rattle.sot_world.specs.Configurations.{Configuration}
use Rattle.sot_world.proofs.LineDecisions.{returns}
use Rattle.sot_law_guard_fallback.specs.Examples.{LineLeavesSc, LineStaysSc, LineOnlyStaysSc, LineKeepsCommand, LineHoldsSafeDraft}

module _ (g : Global) where
  pub leaves_sc : LineLeavesSc g
  leaves_sc = (returns g, refl)

  pub stays_sc : LineStaysSc g
  stays_sc = (record { module_info = nav g; is = refl; was_left = refl; left_dm = refl; rest = refl }, refl)

  pub only_stays_sc : LineOnlyStaysSc g
  only_stays_sc D (stays, mode) =
      let modes : slice_index_or D.modes 0 Sc ≡ Sc = ap (λ (x : Configuration). slice_index_or x.modes 0 Sc) stays.rest in
      let e = mode ∙ modes in
      cc

  pub keeps_command : LineKeepsCommand g
  keeps_command = refl

  pub holds_safe_draft : LineHoldsSafeDraft g
  holds_safe_draft = refl
